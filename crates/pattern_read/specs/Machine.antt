-- How the reader's state moves over a piece.
use Rattle.std.specs.Prelude.{ℕ, ◌+◌, ◌*◌, min, List, [], ◌∷◌, ◌++◌, length, nat_lt, if◌then◌else◌, Option, Some, None, Bool, ◌≡◌}
use Rattle.waf_model.specs.PatternGrammar.{sequence, choice}
use Rattle.waf_model.specs.PatternPieces as pieces
use Rattle.waf_model.specs.declared.pattern.Pattern.{Pattern, Set, Repeat}
use Rattle.pattern_read.specs.declared.group.Atom.{Atom}
use Rattle.pattern_read.specs.declared.group.Group.{Group}
use Rattle.pattern_read.specs.declared.state.State.{State}

-- counts of places stop at the greatest number of 32 bits
abbrev pub capped : ℕ → ℕ
capped n = min n 4294967295

abbrev pub fresh : Group
fresh = record { done = []; items = []; places = 0; last = None }

abbrev pub settled_with : Group → Option Atom → Group
settled_with g None = record { done = g.done; items = g.items; places = g.places; last = None }
settled_with g (Some atom) =
    record { done = g.done; items = g.items ++ atom.pattern ∷ []; places = capped (g.places + atom.places); last = None }

-- the last atom becomes an item
abbrev pub settled : Group → Group
settled g = settled_with g g.last

abbrev pub ended_by : Group → Option Atom → Group
ended_by g last = record { done = g.done; items = g.items; places = g.places; last = last }

abbrev pub with_atom : Group → Pattern → ℕ → Group
with_atom g pattern places = ended_by (settled g) (Some (record { pattern = pattern; places = places }))

abbrev pub anchored : Group → Pattern → Group
anchored g pattern =
    record { done = (settled g).done; items = (settled g).items ++ pattern ∷ []; places = capped ((settled g).places + 1); last = None }

abbrev pub counted_with : Group → ℕ → Option ℕ → ℕ → Option Atom → Option Group
counted_with g least most factor None = None
counted_with g least most factor (Some atom) = Some (record {
  done = g.done;
  items = g.items ++ Repeat atom.pattern least most ∷ [];
  places = capped (g.places + capped (atom.places * factor));
  last = None;
})

-- the last atom, which there must be, is repeated
abbrev pub counted : Group → ℕ → Option ℕ → ℕ → Option Group
counted g least most factor = counted_with g least most factor g.last

abbrev pub barred : Group → Group
barred g = record { done = (settled g).done ++ sequence (settled g).items ∷ []; items = []; places = (settled g).places; last = None }

abbrev pub closed : Group → Atom
closed g = record { pattern = choice ((settled g).done ++ sequence (settled g).items ∷ []); places = (settled g).places }

abbrev pub and_last : Group → Option (List Group × Group) → Option (List Group × Group)
and_last g None = Some ([], g)
and_last g (Some found) = Some (g ∷ found.0, found.1)

-- all but the last group, and the last
abbrev pub split_last : List Group → Option (List Group × Group)
split_last [] = None
split_last (g ∷ groups) = and_last g (split_last groups)

abbrev pub in_group : List Group → Option Group → Option State
in_group outer None = None
in_group outer (Some g) = Some (record { outer = outer; group = g })

abbrev pub closed_into : Atom → Option (List Group × Group) → Option State
closed_into atom None = None
closed_into atom (Some found) = Some (record { outer = found.0; group = with_atom found.1 atom.pattern atom.places })

-- the state after a piece, or none where the piece may not stand there
abbrev pub moved : State → pieces.Piece → Option State
moved s (pieces.set bytes) = Some (record { outer = s.outer; group = with_atom s.group (Set bytes) 1 })
moved s (pieces.anchor pattern) = Some (record { outer = s.outer; group = anchored s.group pattern })
moved s pieces.opens = if nat_lt (length s.outer) 100 then Some (record { outer = s.outer ++ s.group ∷ []; group = fresh }) else None
moved s pieces.closes = closed_into (closed s.group) (split_last s.outer)
moved s pieces.bar = Some (record { outer = s.outer; group = barred s.group })
moved s (pieces.count least most factor) = in_group s.outer (counted s.group least most factor)

abbrev pub and_moved : pieces.Piece → Option State → Option State
and_moved piece None = None
and_moved piece (Some s) = moved s piece

-- the state after these pieces
abbrev pub run_from : List pieces.Piece → Option State → Option State
run_from [] state = state
run_from (piece ∷ more) state = run_from more (and_moved piece state)

abbrev pub first : State
first = record { outer = []; group = fresh }

-- the pieces of the text lead to the state
abbrev pub Arrives : Bool → List ℕ → State → State → Type 0
Arrives fold text from to = (all : List pieces.Piece) × pieces.IsCut fold text all × (run_from all (Some from) ≡ Some to)
