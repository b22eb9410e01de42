-- A graph as the list of its nodes that test a variable, the newest first, and what a node's number means: 0 is
-- the constant no, 1 the constant yes, and the nodes of the list follow from 2, the oldest first (this project's
-- own).
use Rattle.std.specs.Prelude.{ℕ, ◌+◌, ◌<◌, Bool, ◌&&◌, List, [], ◌∷◌, length, Option, Some, None, nat_eq, if◌then◌else◌}
use Rattle.decision_graph.specs.Signs.{Function, Same}
use Rattle.decision_graph.specs.declared.branch.Branch.{Branch}

-- the number of the next node
abbrev pub next_id : List Branch → ℕ
next_id nodes = length nodes + 2

-- a node of the graph has that number
abbrev pub IsId : List Branch → ℕ → Type 0
IsId nodes a = a < next_id nodes

-- the value of a node: yes is true, no is false, and another node has the value of `hi` or of `lo` by the sign of
-- its variable
abbrev pub value : List Branch → ℕ → Function
value [] a signs = nat_eq a 1
value (b ∷ older) a signs = if nat_eq a (next_id older) then (if signs b.var then value older b.hi signs else value older b.lo signs) else value older a signs

-- no variable has this number or a greater one
abbrev pub no_variable : ℕ
no_variable = 4294967296

-- the variable that a node tests first, and `no_variable` for a constant
abbrev pub first_variable : List Branch → ℕ → ℕ
first_variable [] a = no_variable
first_variable (b ∷ older) a = if nat_eq a (next_id older) then b.var else first_variable older a

-- both test one variable and go on at the same nodes
abbrev pub same_branch : Branch → Branch → Bool
same_branch x y = nat_eq x.var y.var && (nat_eq x.hi y.hi && nat_eq x.lo y.lo)

-- the number of that very node
abbrev pub id_of : List Branch → Branch → Option ℕ
id_of [] x = None
id_of (b ∷ older) x = if same_branch b x then Some (next_id older) else id_of older x

-- the node of that number that tests a variable
abbrev pub branch_at : List Branch → ℕ → Option Branch
branch_at [] a = None
branch_at (b ∷ older) a = if nat_eq a (next_id older) then Some b else branch_at older a

-- the node of that number has the function
pub record IsNodeOf (nodes : List Branch) (f : Function) (id : ℕ) : Type 0 where
  pub is_id : IsId nodes id
  pub same : Same (value nodes id) f

-- some node of the graph has the function
pub record HasNode (nodes : List Branch) (f : Function) : Type 0 where
  pub id : ℕ
  pub is_id : IsId nodes id
  pub same : Same (value nodes id) f

-- the function of a test: it goes on with the first function where the variable's sign is true, else with the second
abbrev pub chosen : ℕ → Function → Function → Function
chosen variable f g signs = if signs variable then f signs else g signs

-- the function of a test that goes on at those nodes
abbrev pub test_of : List Branch → ℕ → ℕ → ℕ → Function
test_of nodes variable hi lo = chosen variable (value nodes hi) (value nodes lo)
