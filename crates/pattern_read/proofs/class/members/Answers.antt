use Rattle.std.proofs.Common.{◌≡◌, List, Bool, true, false, not, ◌&&◌, refl, sym, subst, ◌∙◌}
use Rattle.waf_model.specs.PatternPieces.{begins_with, Span}
use Rattle.pattern_read.proofs.MembersLemmas.{Reading, reading_fails, reading_moves, reading_ends}
use Rattle.pattern_read.proofs.class.members.Goals as goal
use Rattle.pattern_read.proofs.class.members.Goals.{then-is_first, else-is_first+then-not-begins}

still_first : (b is_first : Bool) → is_first ≡ true → (b && not is_first) ≡ false
still_first true is_first is = rw is refl
still_first false is_first is = refl

still_open : (b is_first : Bool) → b ≡ false → (b && not is_first) ≡ false
still_open b is_first is = rw is refl

pub returns-in_default-clause-value : goal.returns-in_default-clause-value
returns-in_default-clause-value c =
    let open_still : (begins_with 93 c.loop-is_first.rest.now && not c.loop-is_first.is_first) ≡ false =
    elim c.if-is_first.branch [
      | then-is_first w ↦ still_first _ _ w.if-is_first.true
      | else-is_first+then-not-begins w ↦ still_open _ _ (sym w.begins.ensures ∙ w.if-not-begins.true)
    ] in
    reading_fails c.args.text.now c.loop-is_first.rest.now c.loop-is_first.is_first c.loop-is_first.spans c.loop-is_first.invariant open_still c.in_default.ensures.value

pub loop-is_first-preserved : goal.loop-is_first-preserved
loop-is_first-preserved c =
    let open_still : (begins_with 93 c.loop-is_first.rest.now && not c.loop-is_first.is_first) ≡ false =
    elim c.if-is_first.branch [
      | then-is_first w ↦ still_first _ _ w.if-is_first.true
      | else-is_first+then-not-begins w ↦ still_open _ _ (sym w.begins.ensures ∙ w.if-not-begins.true)
    ] in
    subst (λ (x : List Span). Reading c.args.text.now c.in-Some.next.now false x) (sym c.in_ok-add.ensures)
    (reading_moves c.args.text.now c.loop-is_first.rest.now c.in-Some.next.now c.loop-is_first.is_first c.loop-is_first.spans _
    c.loop-is_first.invariant open_still c.in-Some.ensures.value c.in-Some.ensures.shorter)

pub returns-clause-value : goal.returns-clause-value
returns-clause-value c =
    rw c.after.ensures (reading_ends c.args.text.now c.loop-is_first.rest.now c.loop-is_first.spans c.loop-is_first.is_first
    c.loop-is_first.invariant c.if-is_first.false (sym c.begins.ensures ∙ c.if-not-begins.false))
