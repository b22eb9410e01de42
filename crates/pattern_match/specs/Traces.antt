-- What a trace tells of the parts of its matcher.
use Rattle.std.specs.Prelude.{Bool, false}
use Rattle.pattern_match.specs.declared.trace.Trace.{Trace, Between, Within'}

-- whether one of the first part, or one time of a repetition, ended, and the traces of the parts
pub record Parts : Type 0 where
  pub ended : Bool
  pub first : Trace
  pub second : Trace

-- the parts of a trace: between matches of the parts, nothing is under way in them
abbrev pub parts : Trace → Parts
parts (Between ended) = record { ended = ended; first = Between false; second = Between false }
parts (Within' ended p first q second) = record { ended = ended; first = first; second = second }
