-- The least text of a language, by length and then by bytes (this project's own).
use Rattle.std.specs.Prelude.{ℕ, ◌≡◌, ◌<◌, ◌⊎◌, List, [], ◌∷◌, length}
use Rattle.byte_automata.specs.Automaton.{Automaton, Accepts}

-- the text has the smaller byte at the first place where the two differ
abbrev pub IsBelow : List ℕ → List ℕ → Type 0
IsBelow [] other = ⊥
IsBelow (byte ∷ text) [] = ⊥
IsBelow (byte ∷ text) (byte' ∷ text') = (byte < byte') ⊎ ((byte ≡ byte') × IsBelow text text')

-- the text is shorter, or it is as long and smaller by bytes
abbrev pub IsLess : List ℕ → List ℕ → Type 0
IsLess text other = (length text < length other) ⊎ ((length text ≡ length other) × IsBelow text other)

-- the automaton accepts the text, and every other that it accepts is greater
abbrev pub IsShortest : Automaton → List ℕ → Type 0
IsShortest automaton text = Accepts automaton text × ((other : List ℕ) → Accepts automaton other → (other ≡ text) ⊎ IsLess text other)
