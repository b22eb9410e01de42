-- The splitting of classes of states by a list of classes that wait (this project's own).
use Rattle.std.specs.Prelude.{ℕ, ◌≡◌, ◌+◌, ◌<◌, ◌⊎◌, List, [], length, slice_index, slice_index_or}
use Rattle.std.specs.List.{All, Contains}
use Rattle.byte_automata.specs.declared.kind.Kind.{Kind}
use Rattle.byte_automata.specs.Automaton.{Automaton, next}
use Rattle.byte_automata.specs.Classes.{class_row}

-- the list of a number
abbrev pub list_at : List (List ℕ) → ℕ → List ℕ
list_at lists list = slice_index_or lists list []

-- for each state the states from which a byte leads to it
pub record AreSources (automaton : Automaton) (sources : List (List ℕ)) : Type 0 where
  pub lengths : length sources ≡ length automaton.states
  pub source : (state byte : ℕ) → state < length automaton.states → Contains (list_at sources (next automaton state byte)) state
  pub leads : (state from : ℕ) → Contains (list_at sources state) from → (from < length automaton.states) × (byte : ℕ) × (next automaton from byte ≡ state)

-- The states are of classes below the count, and each is listed as a member of its class; a list may have states besides
-- that left the class.
pub record AreParts (states count : ℕ) (classes : List ℕ) (members : List (List ℕ)) (largest : List ℕ) : Type 0 where
  pub lengths : length classes ≡ states
  pub below : All (λ class. class < count) classes
  pub lists : length members ≡ count
  pub listed : (state : ℕ) → state < states → Contains (list_at members (slice_index classes state)) state
  pub within : (list state : ℕ) → Contains (list_at members list) state → state < states
  pub sized : length largest ≡ count

-- the list has what it had, and besides just the things that have the property
pub record Adds {A : Type 0} (Has : A → Type 0) (before after : List A) : Type 0 where
  pub kept : (thing : A) → Contains before thing → Contains after thing
  pub added : (thing : A) → Has thing → Contains after thing
  pub only : (thing : A) → Contains after thing → Contains before thing ⊎ Has thing

-- a state of the class, listed as its member, has the other as a source
abbrev pub IsSourceOf : List ℕ → List (List ℕ) → List (List ℕ) → ℕ → ℕ → Type 0
IsSourceOf classes members sources class source = (state : ℕ) × Contains (list_at members class) state × (slice_index classes state ≡ class) × Contains (list_at sources state) source

-- a state of a class that waits has the other as a source
abbrev pub IsSourceOfWaiting : List ℕ → List (List ℕ) → List (List ℕ) → List ℕ → ℕ → Type 0
IsSourceOfWaiting classes members sources waiting source = (class : ℕ) × Contains waiting class × IsSourceOf classes members sources class source

-- the two states are of one class, and each byte leads them to one class
abbrev pub LeadAlike : Automaton → List ℕ → ℕ → ℕ → Type 0
LeadAlike automaton classes one other = (slice_index classes one ≡ slice_index classes other) × (class_row automaton classes one ≡ class_row automaton classes other)

abbrev pub kind_at : List Kind → ℕ → Kind
kind_at kinds group = slice_index_or kinds group (record { class = 0; row = 0 })

-- the group of each marked state: it is of the group's class, and two are of one group exactly where they lead alike
pub record AreGroups (automaton : Automaton) (classes marked groups : List ℕ) (kinds : List Kind) : Type 0 where
  pub lengths : length groups ≡ length marked
  pub below : All (λ group. group < length kinds) groups
  pub of_class : (k : ℕ) → k < length marked → (kind_at kinds (slice_index groups k)).class ≡ slice_index classes (slice_index marked k)
  pub alike : (k j : ℕ) → k < length marked → j < length marked → slice_index groups k ≡ slice_index groups j → LeadAlike automaton classes (slice_index marked k) (slice_index marked j)
  pub one_group : (k j : ℕ) → k < length marked → j < length marked → LeadAlike automaton classes (slice_index marked k) (slice_index marked j) → slice_index groups k ≡ slice_index groups j

-- the marked states are of the classes of their groups, which are numbered from the base on, and the others of the
-- classes that they had
pub record IsSplit (before after marked groups : List ℕ) (base : ℕ) : Type 0 where
  pub moved : (k : ℕ) → k < length marked → slice_index after (slice_index marked k) ≡ base + slice_index groups k
  pub kept : (state : ℕ) → (Contains marked state → ⊥) → slice_index after state ≡ slice_index before state

-- after the split the class is a part of the class that it was, or of which the group is
abbrev pub IsPart : List Kind → ℕ → ℕ → ℕ → Type 0
IsPart kinds base class part = (part ≡ class) ⊎ ((group : ℕ) × (group < length kinds) × (part ≡ base + group) × ((kind_at kinds group).class ≡ class))

-- of each two parts of a class one waits
abbrev pub AllButOneWait : List Kind → ℕ → List ℕ → Type 0
AllButOneWait kinds base waiting = (class one other : ℕ) → IsPart kinds base class one → IsPart kinds base class other → (one ≡ other) ⊎ (Contains waiting one ⊎ Contains waiting other)

-- each byte leads the states of one class to one class, or else one of them to a class that waits
abbrev pub IsSteady : Automaton → List ℕ → List ℕ → Type 0
IsSteady automaton classes waiting = (one other byte : ℕ) → one < length automaton.states → other < length automaton.states → slice_index classes one ≡ slice_index classes other
    → (slice_index classes (next automaton one byte) ≡ slice_index classes (next automaton other byte)) ⊎ (Contains waiting (slice_index classes (next automaton one byte)) ⊎ Contains waiting (slice_index classes (next automaton other byte)))
