use Rattle.std.proofs.Common.{None, Some, drop, length, sym, ap, ◌∙◌, subst}
use Rattle.std.proofs.lemmas.Bool.{false≢true}
use Rattle.std.proofs.lemmas.Bool.Decides.{Decides-eqb}
use Rattle.std.proofs.lemmas.Slice.Eq.{strip_prefix_is}
use Rattle.std.proofs.Math.Seq.{drop-append_seam}
use Rattle.waf_model.specs.Passes.{BeginsOutside}
use Rattle.match_eval.proofs.words.begins_with_word.Goals as goal

pub returns-in-None : goal.returns-in-None
returns-in-None c =
    let none = strip_prefix_is Decides-eqb c.args.text.now c.args.search.now None c.in-None.ensures.cases in
    (λ no. absurd (false≢true no), λ (b, is, free). absurd (none b is))

pub returns-in-Some : goal.returns-in-Some
returns-in-Some c =
    let found = c.in-Some.ensures.cases in
    let is = strip_prefix_is Decides-eqb c.args.text.now c.args.search.now (Some c.in-Some.rest) found in (
      λ free. (c.in-Some.rest.now, is, c.begins_outside.ensures.0 free),
      λ (b, same, free). c.begins_outside.ensures.1 (subst BeginsOutside (sym (found.1 ∙ ap (drop (length c.args.search.now)) same ∙ drop-append_seam c.args.search.now b)) free),
    )
