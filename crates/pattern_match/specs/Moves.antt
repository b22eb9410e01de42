-- What a step of a matcher's trace is.
use Rattle.std.specs.Prelude.{◌≡◌, ℕ, Bool, false, ◌&&◌}
use Rattle.waf_model.specs.Pattern.{has_byte}
use Rattle.pattern_match.specs.declared.matcher.Matcher.{Matcher, OneOf}
use Rattle.pattern_match.specs.declared.place.Place.{Place}
use Rattle.pattern_match.specs.declared.place.Step.{Step}
use Rattle.pattern_match.specs.declared.trace.Trace.{Trace, Between}
use Rattle.pattern_match.specs.Marks.{marked}
use Rattle.pattern_match.specs.Openings.{may_begin}
use Rattle.pattern_match.specs.Steps.{ends_after, stepped}
use Rattle.pattern_match.specs.Traces.{Parts}

-- from the old parts to the new ones the marks took the step, and a match that was entered before ends as is said
pub record IsMoved (m : Matcher) (old new : Parts) (entered : Bool) (step : Step) (through : Bool) : Type 0 where
  pub marks : marked m new step.place ≡ stepped (marked m old step.before) entered step.byte step.place
  pub through_is : through ≡ (ends_after (marked m old step.before) entered step.byte step.place).through

-- nothing is under way, and the byte begins no match of the entered matcher
pub record IsIdle (m : Matcher) (trace : Trace) (entered : Bool) (byte : ℕ) : Type 0 where
  pub still : trace ≡ Between false
  pub none_begins : (before : Place) → (entered && may_begin m before byte) ≡ false

-- whether the matcher has no parts and takes the byte
abbrev pub takes : Matcher → ℕ → Bool
takes (OneOf set) byte = has_byte set byte
takes other byte = false
