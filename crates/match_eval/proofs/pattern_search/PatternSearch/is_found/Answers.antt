use Rattle.std.proofs.Common.{◌≡◌, true, arith}
use Rattle.waf_model.specs.Pattern.{Found}
use Rattle.match_eval.proofs.Searching.{none_more, none_anywhere}
use Rattle.match_eval.proofs.pattern_search.PatternSearch.is_found.Goals as goal

pub loop-text-preserved : goal.loop-text-preserved
loop-text-preserved c =
    let p = c.self.inside.pattern.now in
    let tells = c.in_ok-found_in.ensures p c.self.invariant in
    let missed : Found p c.text-item.result → ⊥ = λ h. let found : c.in_ok-found_in.field-0 ≡ true = tells.1 (rw c.bytes.ensures h) in cc in
    none_more (Found p) c.args.texts.now c.loop-text.text-index c.text-item.result (omega arith) c.text-item.is c.loop-text.invariant missed

pub returns : goal.returns
returns c =
    let p = c.self.inside.pattern.now in
    rw (← c.self.view_is) (
      λ h. absurd (cc),
      λ h. absurd (none_anywhere (Found p) c.args.texts.now c.loop-text.text-index (omega arith) c.loop-text.invariant h),
    )
