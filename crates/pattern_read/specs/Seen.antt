-- The pieces of the grammar that the reader's own types stand for.
use Rattle.std.specs.Prelude.{List, [], ◌∷◌}
use Rattle.waf_model.specs.PatternPieces as pieces
use Rattle.waf_model.specs.declared.pattern.Pattern as patterns
use Rattle.pattern_read.specs.declared.members.Member.{Member}
use Rattle.pattern_read.specs.declared.members.Member.TheVariants.{One, Kind}
use Rattle.pattern_read.specs.declared.piece.Times.{Times}
use Rattle.pattern_read.specs.declared.piece.Piece.{Piece}
use Rattle.pattern_read.specs.declared.piece.Piece.TheVariants.{Set, Start, Final, Open, Close, Bar, Count}

abbrev pub times_of : Times → pieces.Piece
times_of times = pieces.count times.least times.most times.factor

abbrev pub piece_of : Piece → pieces.Piece
piece_of (Set bytes) = pieces.set bytes
piece_of Start = pieces.anchor patterns.Start
piece_of Final = pieces.anchor patterns.Final
piece_of Open = pieces.opens
piece_of Close = pieces.closes
piece_of Bar = pieces.bar
piece_of (Count times) = times_of times

-- the spans of a member
abbrev pub member_spans : Member → List pieces.Span
member_spans (One span) = span ∷ []
member_spans (Kind spans) = spans.now
