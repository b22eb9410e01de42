-- Lemmas on the nodes of a graph.
use Rattle.std.proofs.Common.{◌≡◌, ℕ, ◌+◌, ◌<◌, ◌≤◌, Bool, true, false, ◌&&◌, nat_eq, if◌then◌else◌, refl, sym, ap, ◌∙◌, eq-eqb, arith, subst, List, [], ◌∷◌, length, Option, Some, None, ◌⊎◌, inl, inr, ◌++◌, ◌-◌, reverse, get_or, IfSome}
use Rattle.std.proofs.lemmas.List.{reverse-append, reverse-reverse, length-reverse, get_or-append-add, get_or_append_left}
use Rattle.std.proofs.lemmas.Bool.{ne_eqb, eqb-true, and_parts, cases_order}
use Rattle.decision_graph.specs.Signs.{Signs, Same, DependsFrom}
use Rattle.decision_graph.specs.Nodes.{next_id, IsId, value, first_variable, no_variable, same_branch, id_of, branch_at, IsNodeOf, chosen}
use Rattle.decision_graph.specs.Reduced.{MayFollow, IsReduced, IsOrdered, IsTest}
use Rattle.decision_graph.proofs.SignLemmas.{DependsFrom-chosen, DependsFrom-Same, DependsFrom-weaker}
use Rattle.decision_graph.specs.declared.branch.Branch.{Branch}

module _ (b : Branch) (older : List Branch) where
  pub not_newest : (a : ℕ) → IsId older a → nat_eq a (next_id older) ≡ false
  not_newest a h = ne_eqb a (next_id older) (λ e. absurd (omega arith))

  pub is_newest : nat_eq (next_id older) (next_id older) ≡ true
  is_newest = eq-eqb (next_id older) (next_id older) refl

  -- an older node keeps its value
  pub value-older : (a : ℕ) → IsId older a → (s : Signs) → value (b ∷ older) a s ≡ value older a s
  value-older a h s = rw (not_newest a h) refl

  pub value-newest : (s : Signs) → value (b ∷ older) (next_id older) s ≡ chosen b.var (value older b.hi) (value older b.lo) s
  value-newest s = rw is_newest refl

  pub first_variable-older : (a : ℕ) → IsId older a → first_variable (b ∷ older) a ≡ first_variable older a
  first_variable-older a h = rw (not_newest a h) refl

  pub first_variable-newest : first_variable (b ∷ older) (next_id older) ≡ b.var
  first_variable-newest = rw is_newest refl

  pub branch_at-older : (a : ℕ) → IsId older a → branch_at (b ∷ older) a ≡ branch_at older a
  branch_at-older a h = rw (not_newest a h) refl

  pub branch_at-newest : branch_at (b ∷ older) (next_id older) ≡ Some b
  branch_at-newest = rw is_newest refl

-- branches that the test calls the same are equal
pub same_branch-true : (x y : Branch) → same_branch x y ≡ true → x ≡ y
same_branch-true x y h =
    let first = and_parts (nat_eq x.var y.var) (nat_eq x.hi y.hi && nat_eq x.lo y.lo) h in
    let second = and_parts (nat_eq x.hi y.hi) (nat_eq x.lo y.lo) first.1 in
    let var = eqb-true x.var y.var first.0 in
    let hi = eqb-true x.hi y.hi second.0 in
    let lo = eqb-true x.lo y.lo second.1 in
    λ j. record { var = var j; hi = hi j; lo = lo j }

pub same_branch-refl : (x : Branch) → same_branch x x ≡ true
same_branch-refl x = rw (eq-eqb x.var x.var refl, eq-eqb x.hi x.hi refl, eq-eqb x.lo x.lo refl) refl

-- a node is the newest or an older one
pub newest_or_older : (b : Branch) (older : List Branch) (a : ℕ) → IsId (b ∷ older) a → (a ≡ next_id older) ⊎ IsId older a
newest_or_older b older a h = by (cases_order a (next_id older))
  where
    by : (a ≡ next_id older) ⊎ ((a < next_id older) ⊎ (next_id older < a)) → (a ≡ next_id older) ⊎ IsId older a
    by (inl e) = inl e
    by (inr (inl l)) = inr l
    by (inr (inr g)) = absurd (omega arith)

-- the newest node is a test of its branch
pub IsTest-newest : (b : Branch) (older : List Branch) → MayFollow older b → IsTest (b ∷ older) (next_id older) b
IsTest-newest b older f = record {
  hi = omega (arith, f.hi);
  lo = omega (arith, f.lo);
  hi_before = f.hi;
  lo_before = f.lo;
  apart = f.apart;
  above_hi = rw (first_variable-older b older b.hi f.hi) f.above_hi;
  above_lo = rw (first_variable-older b older b.lo f.lo) f.above_lo;
  first = first_variable-newest b older;
  value = record { at = λ s. value-newest b older s ∙ (λ j. if s b.var then (sym (value-older b older b.hi f.hi s)) j else (sym (value-older b older b.lo f.lo s)) j) };
}

-- an older node that is a test of a branch remains one
pub IsTest-older : (b : Branch) (older : List Branch) (a : ℕ) (y : Branch) → IsId older a → IsTest older a y → IsTest (b ∷ older) a y
IsTest-older b older a y is_id t = record {
  hi = omega (arith, t.hi);
  lo = omega (arith, t.lo);
  hi_before = t.hi_before;
  lo_before = t.lo_before;
  apart = t.apart;
  above_hi = rw (first_variable-older b older y.hi t.hi) t.above_hi;
  above_lo = rw (first_variable-older b older y.lo t.lo) t.above_lo;
  first = first_variable-older b older a is_id ∙ t.first;
  value = record { at = λ s. value-older b older a is_id s ∙ t.value.at s ∙ (λ j. if s y.var then (sym (value-older b older y.hi t.hi s)) j else (sym (value-older b older y.lo t.lo s)) j) };
}

-- the branch of a node of that number
pub record Branching (nodes : List Branch) (a : ℕ) : Type 0 where
  pub branch : Branch
  pub found : branch_at nodes a ≡ Some branch
  pub test : IsTest nodes a branch
  pub known : id_of nodes branch ≡ Some a

pub id_of-newest : (b : Branch) (older : List Branch) → id_of (b ∷ older) b ≡ Some (next_id older)
id_of-newest b older = rw (same_branch-refl b) refl

-- where a branch is no older one, the older ones keep their numbers
pub id_of-older : (b : Branch) (older : List Branch) (y : Branch) (a : ℕ) → id_of older b ≡ None → id_of older y ≡ Some a → id_of (b ∷ older) y ≡ Some a
id_of-older b older y a none some = by (same_branch b y) refl
  where
    by : (c : Bool) → same_branch b y ≡ c → id_of (b ∷ older) y ≡ Some a
    by true e = let same : y ≡ b = sym (same_branch-true b y e) in let other : id_of older y ≡ None = ap (id_of older) same ∙ none in absurd (cc)
    by false e = rw e some

-- each node that is no constant has a branch
pub branching : (nodes : List Branch) → IsReduced nodes → (a : ℕ) → IsId nodes a → 2 ≤ a → Branching nodes a
branching [] r a h two = absurd (omega arith)
branching (b ∷ older) r a h two = by (λ l. branching older r.1 a l two) (newest_or_older b older a h)
  where
    newest : Branching (b ∷ older) (next_id older)
    newest = record { branch = b; found = branch_at-newest b older; test = IsTest-newest b older r.0; known = id_of-newest b older }

    by : (IsId older a → Branching older a) → (a ≡ next_id older) ⊎ IsId older a → Branching (b ∷ older) a
    by rest (inl e) = subst (Branching (b ∷ older)) (sym e) newest
    by rest (inr l) = let t = rest l in record {
      branch = t.branch;
      found = branch_at-older b older a l ∙ t.found;
      test = IsTest-older b older a t.branch l t.test;
      known = id_of-older b older t.branch a r.0.is_new t.known;
    }

-- a constant tests no variable
pub first_variable-constant : (nodes : List Branch) (a : ℕ) → a < 2 → first_variable nodes a ≡ no_variable
first_variable-constant [] a h = refl
first_variable-constant (b ∷ older) a h = first_variable-older b older a (omega arith) ∙ first_variable-constant older a h

pub value-constant : (nodes : List Branch) (a : ℕ) → a < 2 → (s : Signs) → value nodes a s ≡ nat_eq a 1
value-constant [] a h s = refl
value-constant (b ∷ older) a h s = value-older b older a (omega arith) s ∙ value-constant older a h s

-- no node tests `no_variable`
pub first_variable-most : (nodes : List Branch) → IsReduced nodes → (a : ℕ) → IsId nodes a → first_variable nodes a ≤ no_variable
first_variable-most [] r a h = omega arith
first_variable-most (b ∷ older) r a h = by (λ k l. first_variable-most older r.1 k l) (newest_or_older b older a h)
  where
    by : ((k : ℕ) → IsId older k → first_variable older k ≤ no_variable) → (a ≡ next_id older) ⊎ IsId older a → first_variable (b ∷ older) a ≤ no_variable
    by rest (inl e) =
        let most : first_variable older b.hi ≤ no_variable = rest b.hi r.0.hi in
        let above : b.var < first_variable older b.hi = r.0.above_hi in
        let newest : first_variable (b ∷ older) (next_id older) ≡ b.var = first_variable-newest b older in
        let at_newest : first_variable (b ∷ older) (next_id older) ≤ no_variable = omega arith in
        subst (λ k. first_variable (b ∷ older) k ≤ no_variable) (sym e) at_newest
    by rest (inr l) = rw (first_variable-older b older a l) (rest a l)

-- a node's function looks at no variable below the one that it tests first
pub DependsFrom-value : (nodes : List Branch) → IsReduced nodes → (a : ℕ) → IsId nodes a → DependsFrom (first_variable nodes a) (value nodes a)
DependsFrom-value [] r a h = record { at = λ s t agree. refl }
DependsFrom-value (b ∷ older) r a h = by (λ k l. DependsFrom-value older r.1 k l) (newest_or_older b older a h)
  where
    above_hi : b.var < first_variable older b.hi
    above_hi = r.0.above_hi

    above_lo : b.var < first_variable older b.lo
    above_lo = r.0.above_lo

    parts : ((k : ℕ) → IsId older k → DependsFrom (first_variable older k) (value older k)) → DependsFrom b.var (chosen b.var (value older b.hi) (value older b.lo))
    parts rest = DependsFrom-chosen b.var (DependsFrom-weaker (first_variable older b.hi) b.var (omega arith) (rest b.hi r.0.hi)) (DependsFrom-weaker (first_variable older b.lo) b.var (omega arith) (rest b.lo r.0.lo))

    newest : ((k : ℕ) → IsId older k → DependsFrom (first_variable older k) (value older k)) → DependsFrom (first_variable (b ∷ older) (next_id older)) (value (b ∷ older) (next_id older))
    newest rest = rw (first_variable-newest b older) (DependsFrom-Same b.var (record { at = λ s. sym (value-newest b older s) }) (parts rest))

    by : ((k : ℕ) → IsId older k → DependsFrom (first_variable older k) (value older k)) → (a ≡ next_id older) ⊎ IsId older a → DependsFrom (first_variable (b ∷ older) a) (value (b ∷ older) a)
    by rest (inl e) = let P : ℕ → Type 0 = λ k. DependsFrom (first_variable (b ∷ older) k) (value (b ∷ older) k) in subst P (sym e) (newest rest)
    by rest (inr l) = rw (first_variable-older b older a l) (DependsFrom-Same (first_variable older a) (record { at = λ s. sym (value-older b older a l s) }) (rest a l))

-- no node of a reduced graph looks at a variable below its first
pub ordered : (nodes : List Branch) → IsReduced nodes → IsOrdered nodes
ordered nodes r = record { depends = DependsFrom-value nodes r }

-- the nodes as a list from the oldest
pub branch_at-index : (nodes : List Branch) (a : ℕ) (d : Branch) → IsId nodes a → 2 ≤ a → branch_at nodes a ≡ Some (get_or (reverse nodes) (a - 2) d)
branch_at-index [] a d h two = absurd (omega arith)
branch_at-index (b ∷ older) a d h two = by (branch_at-index older a d) (newest_or_older b older a h)
  where
    behind : reverse (b ∷ older) ≡ reverse older ++ b ∷ []
    behind = reverse-append (b ∷ []) older

    by : (IsId older a → 2 ≤ a → branch_at older a ≡ Some (get_or (reverse older) (a - 2) d)) → (a ≡ next_id older) ⊎ IsId older a → branch_at (b ∷ older) a ≡ Some (get_or (reverse (b ∷ older)) (a - 2) d)
    by rest (inl e) =
        let i : a - 2 ≡ length (reverse older) + 0 = omega (arith, length-reverse older) in
        let at : branch_at (b ∷ older) a ≡ Some b = ap (branch_at (b ∷ older)) e ∙ branch_at-newest b older in
        let there : get_or (reverse (b ∷ older)) (a - 2) d ≡ b = ap (λ l. get_or l (a - 2) d) behind ∙ ap (λ k. get_or (reverse older ++ b ∷ []) k d) i ∙ get_or-append-add (reverse older) (b ∷ []) 0 d in
        at ∙ ap (λ x. Some x) (sym there)
    by rest (inr l) =
        let lt : a - 2 < length (reverse older) = omega (arith, length-reverse older) in
        branch_at-older b older a l ∙ rest l two ∙ ap (λ x. Some x) (sym (ap (λ l. get_or l (a - 2) d) behind ∙ get_or_append_left (reverse older) (b ∷ []) d (a - 2) lt))

-- the item of a number, where the list goes from the oldest node to the newest
pub IsTest-index : (items : List Branch) (a : ℕ) (x : Branch) → IsReduced (reverse items) → IsId (reverse items) a → 2 ≤ a → x ≡ get_or items (a - 2) x → IsTest (reverse items) a x
IsTest-index items a x r h two is =
    let y = branching (reverse items) r a h two in
    let at : branch_at (reverse items) a ≡ Some (get_or items (a - 2) x) = branch_at-index (reverse items) a x h two ∙ ap (λ l. Some (get_or l (a - 2) x)) (reverse-reverse items) in
    let found : branch_at (reverse items) a ≡ Some y.branch = y.found in
    let same : y.branch ≡ x = cc in
    subst (IsTest (reverse items) a) same y.test

-- the number of a branch is that of a node with the branch
pub record Known (nodes : List Branch) (b : Branch) (id : ℕ) : Type 0 where
  pub is_id : IsId nodes id
  pub tests : 2 ≤ id
  pub found : branch_at nodes id ≡ Some b

pub known : (nodes : List Branch) (b : Branch) (id : ℕ) → id_of nodes b ≡ Some id → Known nodes b id
known [] b id h = absurd (cc)
known (x ∷ older) b id h = by (λ k. known older b id k) (same_branch x b) refl
  where
    by : (id_of older b ≡ Some id → Known older b id) → (c : Bool) → same_branch x b ≡ c → Known (x ∷ older) b id
    by rest true e =
        let same : x ≡ b = same_branch-true x b e in
        let at : id_of (x ∷ older) b ≡ Some (next_id older) = rw e refl in
        let is : next_id older ≡ id = cc in
        let newest : Known (x ∷ older) x (next_id older) = record { is_id = omega arith; tests = omega arith; found = branch_at-newest x older } in
        let P : Branch → Type 0 = λ y. Known (x ∷ older) y (next_id older) in
        subst (Known (x ∷ older) b) is (subst P same newest)
    by rest false e =
        let at : id_of (x ∷ older) b ≡ id_of older b = rw e refl in
        let k = rest (sym at ∙ h) in
        record { is_id = omega (arith, k.is_id); tests = k.tests; found = branch_at-older x older id k.is_id ∙ k.found }

-- and so that of the node with the function of its test
pub IsTest-known : (nodes : List Branch) (b : Branch) (id : ℕ) → IsReduced nodes → id_of nodes b ≡ Some id → IsTest nodes id b
IsTest-known nodes b id r h =
    let k = known nodes b id h in
    let y = branching nodes r id k.is_id k.tests in
    let found : branch_at nodes id ≡ Some y.branch = y.found in
    let at : branch_at nodes id ≡ Some b = k.found in
    let same : y.branch ≡ b = cc in
    subst (IsTest nodes id) same y.test

pub value-yes : (nodes : List Branch) (a : ℕ) → a ≡ 1 → Same (value nodes a) (λ _. true)
value-yes nodes a e = record { at = λ s. value-constant nodes a (omega arith) s ∙ ap (λ k. nat_eq k 1) e }

pub value-no : (nodes : List Branch) (a : ℕ) → a ≡ 0 → Same (value nodes a) (λ _. false)
value-no nodes a e = record { at = λ s. value-constant nodes a (omega arith) s ∙ ap (λ k. nat_eq k 1) e }

-- what the table of numbers gives has the function of the test
pub found_in_table : (nodes : List Branch) (b : Branch) (r : Option ℕ) → IsReduced nodes → r ≡ id_of nodes b → IfSome r (IsNodeOf nodes (chosen b.var (value nodes b.hi) (value nodes b.lo)))
found_in_table nodes b None reduced e = tt
found_in_table nodes b (Some id) reduced e = record { is_id = (known nodes b id (sym e)).is_id; same = (IsTest-known nodes b id reduced (sym e)).value }
