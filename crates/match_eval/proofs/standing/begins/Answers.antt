use Rattle.std.proofs.Common.{drop, length}
use Rattle.std.proofs.lemmas.Bool.Decides.{Decides-eqb}
use Rattle.std.proofs.lemmas.Slice.Eq.{starts_is}
use Rattle.match_eval.proofs.standing.begins.Goals as goal

pub returns : goal.returns
returns c =
    let same = starts_is Decides-eqb c.args.text.now c.args.search.now c.starts_with.result c.starts_with.ensures.value in
    (λ yes. (drop (length c.args.search.now) c.args.text.now, same.0 yes), λ (b, is). same.1 b is)
