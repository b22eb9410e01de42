-- An expression in which it is marked how its parts ended at the place before.
use Rattle.std.specs.Prelude.{Bool, None}
use Rattle.waf_model.specs.Pattern.{Expression, nothing, empty, one_of, start, end, final, both, either, repeat}
use Rattle.waf_model.specs.declared.pattern.ByteSet.{ByteSet}
use Rattle.pattern_match.specs.declared.matcher.Matcher.{Matcher, Nothing, Empty, OneOf, Start, End, Final, Both', Either', Star'}
use Rattle.pattern_match.specs.declared.place.Place.{Place}
use Rattle.pattern_match.specs.Openings.{empty_at}
use Rattle.pattern_match.specs.Traces.{Parts, parts}

-- how matches of an expression end at a place: whether one that was entered at an earlier place does, and whether one does that
-- is entered there
pub record Ends : Type 0 where
  pub through : Bool
  pub empty : Bool

-- one after another keeps how the first ended, a repetition whether one time that was entered before ended
pub data Marked : Type 0 where
  never : Marked
  blank : Marked
  byte_of : (set : ByteSet) → Marked
  at_start : Marked
  at_end : Marked
  at_final : Marked
  in_turn : (first : Marked) (ends : Ends) (second : Marked) → Marked
  one_or_other : (first second : Marked) → Marked
  in_rounds : (inner : Marked) (through : Bool) → Marked

-- the expression without its marks
abbrev pub unmarked : Marked → Expression
unmarked never = nothing
unmarked blank = empty
unmarked (byte_of set) = one_of set
unmarked at_start = start
unmarked at_end = end
unmarked at_final = final
unmarked (in_turn a ends b) = both (unmarked a) (unmarked b)
unmarked (one_or_other a b) = either (unmarked a) (unmarked b)
unmarked (in_rounds a through) = repeat (unmarked a) 0 None

-- the marks that a trace with these parts stands for, behind the place
abbrev pub marked : Matcher → Parts → Place → Marked
marked Nothing trace place = never
marked Empty trace place = blank
marked (OneOf set) trace place = byte_of set
marked Start trace place = at_start
marked End trace place = at_end
marked Final trace place = at_final
marked (Both' p a q b opening) trace place =
    in_turn (marked a (parts trace.first) place) (record { through = trace.ended; empty = empty_at a place }) (marked b (parts trace.second) place)
marked (Either' p a q b opening) trace place = one_or_other (marked a (parts trace.first) place) (marked b (parts trace.second) place)
marked (Star' p a first) trace place = in_rounds (marked a (parts trace.first) place) trace.ended
