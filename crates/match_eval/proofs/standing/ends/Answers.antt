use Rattle.std.proofs.Common.{◌-◌, length, take}
use Rattle.std.proofs.lemmas.Bool.Decides.{Decides-eqb}
use Rattle.std.proofs.lemmas.Slice.Eq.{ends_is}
use Rattle.match_eval.proofs.standing.ends.Goals as goal

pub returns : goal.returns
returns c =
    let same = ends_is Decides-eqb c.args.text.now c.args.search.now c.ends_with.result c.ends_with.ensures.value in
    (λ yes. (take (length c.args.text.now - length c.args.search.now) c.args.text.now, same.0 yes), λ (a, is). same.1 a is)
