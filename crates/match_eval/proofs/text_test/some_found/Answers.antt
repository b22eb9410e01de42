use Rattle.std.proofs.Common.{◌≡◌, ℕ, List, Any, true, arith}
use Rattle.waf_model.specs.Pattern.{Found}
use Rattle.waf_model.specs.declared.pattern.Pattern.{Pattern}
use Rattle.match_eval.proofs.Searching.{none_more, none_anywhere, swapped}
use Rattle.match_eval.proofs.text_test.some_found.Goals as goal

pub loop-pattern-preserved : goal.loop-pattern-preserved
loop-pattern-preserved c =
    let missed : Any (Found c.pattern-item.result) c.args.texts.now → ⊥ =
    λ h. let found : c.in_ok-is_found.field-0 ≡ true = c.in_ok-is_found.ensures.1 h in cc in
    none_more (λ (p : Pattern). Any (Found p) c.args.texts.now) c.args.patterns.now c.loop-pattern.pattern-index c.pattern-item.result
    (omega arith) c.pattern-item.is c.loop-pattern.invariant missed

pub returns : goal.returns
returns c = (
  λ h. absurd (cc),
  λ h. absurd (none_anywhere (λ (p : Pattern). Any (Found p) c.args.texts.now) c.args.patterns.now c.loop-pattern.pattern-index (omega arith)
      c.loop-pattern.invariant (swapped (λ (text : List ℕ) (p : Pattern). Found p text) c.args.texts.now c.args.patterns.now h)),
)
