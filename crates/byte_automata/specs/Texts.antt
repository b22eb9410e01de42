-- Texts of bytes, and what is told of languages by them alone (this project's own).
use Rattle.std.specs.Prelude.{ℕ, ◌≡◌, ◌<◌, List, ◌++◌, Bool}
use Rattle.std.specs.List.{All}
use Rattle.byte_automata.specs.Automaton.{Automaton, accepts}

-- a text is of bytes
abbrev pub IsText : List ℕ → Type 0
IsText text = All (λ byte. byte < 256) text

-- the residual of a language after a text: what goes on to a text of the language
abbrev pub residual : (List ℕ → Bool) → List ℕ → List ℕ → Bool
residual language text w = language (text ++ w)

-- both languages hold the same texts of bytes
abbrev pub AreSameTexts : (List ℕ → Bool) → (List ℕ → Bool) → Type 0
AreSameTexts one other = (w : List ℕ) → IsText w → one w ≡ other w

-- both accept the same texts of bytes
abbrev pub SameOnTexts : Automaton → Automaton → Type 0
SameOnTexts one other = AreSameTexts (accepts one) (accepts other)

-- after either front the language holds the same texts of bytes: its two residuals are one
abbrev pub SameAfter : (List ℕ → Bool) → List ℕ → List ℕ → Type 0
SameAfter language u v = AreSameTexts (residual language u) (residual language v)
