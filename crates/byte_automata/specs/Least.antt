-- The least automaton of a language, whose states are numbered by first reach (this project's own).
use Rattle.std.specs.Prelude.{ℕ, ◌≡◌, ◌<◌, List, length, slice_index}
use Rattle.std.specs.List.{All}
use Rattle.byte_automata.specs.Automaton.{Automaton, IsWhole, next, ends, accepts, accepts_from}
use Rattle.byte_automata.specs.FirstReach.{IsEarlier}
use Rattle.byte_automata.specs.Members.{AreDifferent}
use Rattle.byte_automata.specs.Row.{IsJoined}

-- both accept the same texts
abbrev pub SameLanguage : Automaton → Automaton → Type 0
SameLanguage one other = (text : List ℕ) → accepts one text ≡ accepts other text

-- what is accepted after a text that ends in the one state is what is accepted after one that ends in the other
abbrev pub SameResidual : Automaton → ℕ → ℕ → Type 0
SameResidual automaton one other = (text : List ℕ) → accepts_from automaton one text ≡ accepts_from automaton other text

-- some text ends in the state
abbrev pub IsReachable : Automaton → ℕ → Type 0
IsReachable automaton state = (text : List ℕ) × (ends automaton automaton.start text ≡ state)

-- the state is first reached from a smaller one: a byte leads to it, and every earlier state and byte lead to a smaller
-- state
pub record IsFirstReached (automaton : Automaton) (state : ℕ) : Type 0 where
  pub from : ℕ
  pub byte : ℕ
  pub smaller : from < state
  pub leads : next automaton from byte ≡ state
  pub first : (k c : ℕ) → IsEarlier k c from byte → next automaton k c < state

-- states are numbered by first reach from the start, which is 0, and no two neighbouring edges lead to one state
pub record IsNumbered (automaton : Automaton) : Type 0 where
  pub whole : IsWhole automaton
  pub start : automaton.start ≡ 0
  pub joined : All (λ state. IsJoined state.edges) automaton.states
  pub reached : (state : ℕ) → 0 < state → state < length automaton.states → IsFirstReached automaton state
  pub reachable : (state : ℕ) → state < length automaton.states → IsReachable automaton state

-- a numbered automaton, no two states of which have one residual
pub record IsLeast (automaton : Automaton) : Type 0 where
  pub numbered : IsNumbered automaton
  pub least : (one other : ℕ) → one < length automaton.states → other < length automaton.states → SameResidual automaton one other → one ≡ other

-- The states of the new automaton are the reachable ones of the old, in some order, with their residuals.
pub record Renumbers (old new : Automaton) : Type 0 where
  pub order : List ℕ
  pub lengths : length new.states ≡ length order
  pub different : AreDifferent order
  pub reachable : All (IsReachable old) order
  pub start : slice_index order 0 ≡ old.start
  pub residual : (state : ℕ) (text : List ℕ) → state < length order → accepts_from new state text ≡ accepts_from old (slice_index order state) text

-- the new automaton accepts the same texts, and no two states that texts reach have one residual
pub record Redirects (old new : Automaton) : Type 0 where
  pub language : SameLanguage old new
  pub apart : (one other : ℕ) → IsReachable new one → IsReachable new other → SameResidual new one other → one ≡ other

-- two states are of one class exactly where they have one residual
pub record AreResidualClasses (automaton : Automaton) (classes : List ℕ) : Type 0 where
  pub lengths : length classes ≡ length automaton.states
  pub same : (one other : ℕ) → one < length classes → other < length classes → slice_index classes one ≡ slice_index classes other → SameResidual automaton one other
  pub one_class : (one other : ℕ) → one < length classes → other < length classes → SameResidual automaton one other → slice_index classes one ≡ slice_index classes other

-- each state has the name of one state of its class, and all states of a class have one name
pub record AreNames (classes names : List ℕ) : Type 0 where
  pub lengths : length names ≡ length classes
  pub within : All (λ name. name < length classes) names
  pub of_class : (state : ℕ) → state < length classes → slice_index classes (slice_index names state) ≡ slice_index classes state
  pub one_name : (one other : ℕ) → one < length classes → other < length classes → slice_index classes one ≡ slice_index classes other → slice_index names one ≡ slice_index names other
