-- The expression that a matcher stands for.
use Rattle.std.specs.Prelude.{◌≡◌, ℕ, zero, suc, ◌-◌, Option, Some, None, nat_lt, if◌then◌else◌}
use Rattle.waf_model.specs.Pattern.{Expression, nothing, empty, one_of, start, end, final, both, either, repeat}
use Rattle.pattern_match.specs.declared.matcher.Matcher.{Matcher, Nothing, Empty, OneOf, Start, End, Final, Both', Either', Star'}
use Rattle.pattern_match.specs.Openings.{IsSound}

abbrev pub shape : Matcher → Expression
shape Nothing = nothing
shape Empty = empty
shape (OneOf set) = one_of set
shape Start = start
shape End = end
shape Final = final
shape (Both' p a q b opening) = both (shape a) (shape b)
shape (Either' p a q b opening) = either (shape a) (shape b)
shape (Star' p a first) = repeat (shape a) 0 None

-- the matcher stands for the expression, and keeps rightly how matches of its parts begin
pub record IsMatcherOf (e : Expression) (m : Matcher) : Type 0 where
  pub shape_is : shape m ≡ e
  pub sound : IsSound m

-- n copies of a, and then b
abbrev pub copies : ℕ → Expression → Expression → Expression
copies zero a b = b
copies (suc n) a b = both a (copies n a b)

-- at most n copies of a: a{0,3} is (a(a(a)?)?)?
abbrev pub up_to : ℕ → Expression → Expression
up_to zero a = empty
up_to (suc n) a = either empty (both a (up_to n a))

-- a repetition by copies and a star
abbrev pub repeated : Expression → ℕ → Option ℕ → Expression
repeated a least None = copies least a (repeat a 0 None)
repeated a least (Some most) = if nat_lt most least then nothing else copies least a (up_to (most - least) a)

-- the expression with its repetitions written as copies and stars
abbrev pub unrolled : Expression → Expression
unrolled (both a b) = both (unrolled a) (unrolled b)
unrolled (either a b) = either (unrolled a) (unrolled b)
unrolled (repeat a least most) = repeated (unrolled a) least most
unrolled nothing = nothing
unrolled empty = empty
unrolled (one_of set) = one_of set
unrolled start = start
unrolled end = end
unrolled final = final
