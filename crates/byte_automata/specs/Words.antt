-- The texts that lead to the places of an exploration (this project's own).
use Prim.Native.Nat.{zero, suc}
use Rattle.std.specs.Prelude.{ℕ, List, [], ◌∷◌, ◌++◌}
use Rattle.byte_automata.specs.declared.arrival.Arrival.{Arrival}
use Rattle.byte_automata.specs.FirstReach.{arrival_at}

-- the text of a place, of at most so many bytes
abbrev pub text_within : List Arrival → ℕ → ℕ → List ℕ
text_within arrivals zero place = []
text_within arrivals (suc most) zero = []
text_within arrivals (suc most) (suc place) = text_within arrivals most (arrival_at arrivals place).from ++ (arrival_at arrivals place).byte ∷ []

-- the text of a place: none for the first, and else that of where its arrival comes from, and the arrival's byte
abbrev pub text_at : List Arrival → ℕ → List ℕ
text_at arrivals place = text_within arrivals place place
