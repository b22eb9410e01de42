-- Lemmas on the operations and their tables.
use Rattle.std.proofs.Common.{◌≡◌, ℕ, ◌<◌, ◌≤◌, min, max, Bool, true, false, ◌&&◌, ◌||◌, not, cond, nat_eq, if◌then◌else◌, refl, sym, ap, ◌∙◌, arith, subst, List, Option, Some, None, ◌⊎◌, inl, inr, IfSome}
use Rattle.std.proofs.lemmas.Bool.{cases_order, eqb-true, and_parts}
use Rattle.decision_graph.specs.Grows.{Keeps}
use Rattle.decision_graph.specs.Joined.{joined, Settles, IsResult, AreResults}
use Rattle.decision_graph.specs.Nodes.{IsId, value, IsNodeOf, chosen}
use Rattle.decision_graph.specs.Signs.{Function, Same, DependsFrom}
use Rattle.decision_graph.specs.Stored.{same_operands}
use Rattle.decision_graph.specs.declared.branch.Branch.{Branch}
use Rattle.decision_graph.specs.declared.operands.Operands.{Operands}
use Rattle.decision_graph.specs.declared.operation.Operation.{Operation}
use Rattle.decision_graph.specs.declared.operation.Operation.TheVariants.{Both, Either, Differ}
use Rattle.decision_graph.proofs.GrowLemmas.{IsId-kept}
use Rattle.decision_graph.proofs.NodeLemmas.{value-yes, value-no}
use Rattle.decision_graph.proofs.SignLemmas.{Same-refl, Same-trans}

-- functions that are the same have the same results
pub joined-same : (operation : Operation) {f g h k : Function} → Same f g → Same h k → Same (joined operation f h) (joined operation g k)
joined-same Both p q = record { at = λ s. λ j. p.at s j && q.at s j }
joined-same Either p q = record { at = λ s. λ j. p.at s j || q.at s j }
joined-same Differ p q = record { at = λ s. λ j. if p.at s j then not (q.at s j) else q.at s j }

and_swap : (x y : Bool) → (x && y) ≡ (y && x)
and_swap true true = refl
and_swap true false = refl
and_swap false true = refl
and_swap false false = refl

or_swap : (x y : Bool) → (x || y) ≡ (y || x)
or_swap true true = refl
or_swap true false = refl
or_swap false true = refl
or_swap false false = refl

differ_swap : (x y : Bool) → (if x then not y else y) ≡ (if y then not x else x)
differ_swap true true = refl
differ_swap true false = refl
differ_swap false true = refl
differ_swap false false = refl

-- each operation is the same in either order
pub joined-swap : (operation : Operation) (f g : Function) → Same (joined operation f g) (joined operation g f)
joined-swap Both f g = record { at = λ s. and_swap (f s) (g s) }
joined-swap Either f g = record { at = λ s. or_swap (f s) (g s) }
joined-swap Differ f g = record { at = λ s. differ_swap (f s) (g s) }

pub joined-order : (operation : Operation) (nodes : List Branch) (a b : ℕ) → Same (joined operation (value nodes (min a b)) (value nodes (max a b))) (joined operation (value nodes a) (value nodes b))
joined-order operation nodes a b = by (cases_order a b)
  where
    P : ℕ → ℕ → Type 0
    P x y = Same (joined operation (value nodes x) (value nodes y)) (joined operation (value nodes a) (value nodes b))

    in_order : a ≤ b → Same (joined operation (value nodes (min a b)) (value nodes (max a b))) (joined operation (value nodes a) (value nodes b))
    in_order le = let low : min a b ≡ a = omega arith in let high : max a b ≡ b = omega arith in rw (low, high) (Same-refl (joined operation (value nodes a) (value nodes b)))

    by : (a ≡ b) ⊎ ((a < b) ⊎ (b < a)) → Same (joined operation (value nodes (min a b)) (value nodes (max a b))) (joined operation (value nodes a) (value nodes b))
    by (inl e) = in_order (omega arith)
    by (inr (inl lt)) = in_order (omega arith)
    by (inr (inr gt)) = let low : min a b ≡ b = omega arith in let high : max a b ≡ a = omega arith in rw (low, high) (joined-swap operation (value nodes b) (value nodes a))

-- the operation on two choices by one sign is a choice
pub joined-chosen : (operation : Operation) (v : ℕ) (fh fl gh gl : Function) → Same (joined operation (chosen v fh fl) (chosen v gh gl)) (chosen v (joined operation fh gh) (joined operation fl gl))
joined-chosen Both v fh fl gh gl = record { at = λ s. elim (s v) as (λ c. ((if c then fh s else fl s) && (if c then gh s else gl s)) ≡ (if c then fh s && gh s else fl s && gl s)) [ true ↦ refl | false ↦ refl ] }
joined-chosen Either v fh fl gh gl = record { at = λ s. elim (s v) as (λ c. ((if c then fh s else fl s) || (if c then gh s else gl s)) ≡ (if c then fh s || gh s else fl s || gl s)) [ true ↦ refl | false ↦ refl ] }
joined-chosen Differ v fh fl gh gl = record { at = λ s. elim (s v) as (λ c. (if (if c then fh s else fl s) then not (if c then gh s else gl s) else (if c then gh s else gl s)) ≡ (if c then (if fh s then not (gh s) else gh s) else (if fl s then not (gl s) else gl s))) [ true ↦ refl | false ↦ refl ] }

pub DependsFrom-joined : (operation : Operation) (first : ℕ) {f g : Function} → DependsFrom first f → DependsFrom first g → DependsFrom first (joined operation f g)
DependsFrom-joined Both first p q = record { at = λ s t agree. λ j. p.at s t agree j && q.at s t agree j }
DependsFrom-joined Either first p q = record { at = λ s t agree. λ j. p.at s t agree j || q.at s t agree j }
DependsFrom-joined Differ first p q = record { at = λ s t agree. λ j. if p.at s t agree j then not (q.at s t agree j) else q.at s t agree j }

and_self : (x : Bool) → x ≡ (x && x)
and_self true = refl
and_self false = refl

or_self : (x : Bool) → x ≡ (x || x)
or_self true = refl
or_self false = refl

no_difference : (x : Bool) → false ≡ (if x then not x else x)
no_difference true = refl
no_difference false = refl

module _ (a b : ℕ) where
  pub both_yes : a ≡ 1 → Settles Both a b b
  both_yes e = record { at = λ nodes ha hb. record { is_id = hb; same = record { at = λ s. ap (λ c. c && value nodes b s) (sym ((value-yes nodes a e).at s)) } } }

  pub both_no : a ≡ 0 → Settles Both a b a
  both_no e = record { at = λ nodes ha hb. record { is_id = ha; same = record { at = λ s. (value-no nodes a e).at s ∙ ap (λ c. c && value nodes b s) (sym ((value-no nodes a e).at s)) } } }

  pub both_same : a ≡ b → Settles Both a b a
  both_same e = record { at = λ nodes ha hb. record { is_id = ha; same = record { at = λ s. and_self (value nodes a s) ∙ ap (λ k. value nodes a s && value nodes k s) e } } }

  pub either_no : a ≡ 0 → Settles Either a b b
  either_no e = record { at = λ nodes ha hb. record { is_id = hb; same = record { at = λ s. ap (λ c. c || value nodes b s) (sym ((value-no nodes a e).at s)) } } }

  pub either_yes : a ≡ 1 → Settles Either a b a
  either_yes e = record { at = λ nodes ha hb. record { is_id = ha; same = record { at = λ s. (value-yes nodes a e).at s ∙ ap (λ c. c || value nodes b s) (sym ((value-yes nodes a e).at s)) } } }

  pub either_same : a ≡ b → Settles Either a b a
  either_same e = record { at = λ nodes ha hb. record { is_id = ha; same = record { at = λ s. or_self (value nodes a s) ∙ ap (λ k. value nodes a s || value nodes k s) e } } }

  pub differ_no : a ≡ 0 → Settles Differ a b b
  differ_no e = record { at = λ nodes ha hb. record { is_id = hb; same = record { at = λ s. ap (λ c. if c then not (value nodes b s) else value nodes b s) (sym ((value-no nodes a e).at s)) } } }

  pub differ_same : (k : ℕ) → k ≡ 0 → a ≡ b → Settles Differ a b k
  differ_same k z e = record { at = λ nodes ha hb. record { is_id = omega arith; same = record { at = λ s. (value-no nodes k z).at s ∙ no_difference (value nodes a s) ∙ ap (λ i. if value nodes a s then not (value nodes i s) else value nodes i s) e } } }

-- a comparison that came out true
pub compared : (a k y : ℕ) (r : Bool) → r ≡ nat_eq a y → r ≡ true → y ≡ k → a ≡ k
compared a k y r is true_ same = eqb-true a y (sym is ∙ true_) ∙ same

-- a settled result, by operands in either order
pub settled_in_order : (operation : Operation) (nodes : List Branch) (a b low high id : ℕ) → IsId nodes a → IsId nodes b → low ≡ min a b → high ≡ max a b → Settles operation low high id → IsNodeOf nodes (joined operation (value nodes a) (value nodes b)) id
settled_in_order operation nodes a b low high id ha hb l h s =
    let is_low : IsId nodes low = omega arith in
    let is_high : IsId nodes high = omega arith in
    let r = s.at nodes is_low is_high in
    let P : ℕ → ℕ → Type 0 = λ x y. Same (value nodes id) (joined operation (value nodes x) (value nodes y)) in
    let ordered : P (min a b) (max a b) = subst (λ x. P x (max a b)) l (subst (λ y. P low y) h r.same) in
    record { is_id = r.is_id; same = Same-trans ordered (joined-order operation nodes a b) }

-- a result of a table, by operands in either order
pub known_in_table : (operation : Operation) (nodes : List Branch) (table : Operands → Option ℕ) (operands : Operands) (a b : ℕ) (r : Option ℕ) → AreResults operation nodes table → operands.low ≡ min a b → operands.high ≡ max a b → r ≡ table operands
    → IfSome r (IsNodeOf nodes (joined operation (value nodes a) (value nodes b)))
known_in_table operation nodes table operands a b None results l h is = tt
known_in_table operation nodes table operands a b (Some id) results l h is =
    let r = results.at operands id (sym is) in
    let P : ℕ → ℕ → Type 0 = λ x y. Same (value nodes id) (joined operation (value nodes x) (value nodes y)) in
    let ordered : P (min a b) (max a b) = subst (λ x. P x (max a b)) l (subst (λ y. P operands.low y) h r.result.same) in
    record { is_id = r.result.is_id; same = Same-trans ordered (joined-order operation nodes a b) }

-- a result that may be kept
pub result_of : (operation : Operation) (nodes : List Branch) (operands : Operands) (a b id : ℕ) → IsId nodes a → IsId nodes b → operands.low ≡ min a b → operands.high ≡ max a b → IsNodeOf nodes (joined operation (value nodes a) (value nodes b)) id → IsResult operation nodes operands id
result_of operation nodes operands a b id ha hb l h r =
    let P : ℕ → ℕ → Type 0 = λ x y. Same (value nodes id) (joined operation (value nodes x) (value nodes y)) in
    let order = joined-order operation nodes a b in
    let ordered : P (min a b) (max a b) = record { at = λ s. r.same.at s ∙ sym (order.at s) } in
    record {
      low = omega arith;
      high = omega arith;
      result = record { is_id = r.is_id; same = subst (λ x. P x operands.high) (sym l) (subst (λ y. P (min a b) y) (sym h) ordered) };
    }

-- a result stays right as the graph grows
pub IsResult-kept : (operation : Operation) (old new : List Branch) (operands : Operands) (id : ℕ) → Keeps old new → IsResult operation old operands id → IsResult operation new operands id
IsResult-kept operation old new operands id k r =
    let low = k.functions operands.low r.low in
    let high = k.functions operands.high r.high in
    let both = joined-same operation low high in
    record {
      low = IsId-kept old new operands.low k r.low;
      high = IsId-kept old new operands.high k r.high;
      result = record {
        is_id = IsId-kept old new id k r.result.is_id;
        same = record { at = λ s. (k.functions id r.result.is_id).at s ∙ r.result.same.at s ∙ sym (both.at s) };
      };
    }

pub AreResults-kept : (operation : Operation) (old new : List Branch) (table : Operands → Option ℕ) → Keeps old new → AreResults operation old table → AreResults operation new table
AreResults-kept operation old new table k r = record { at = λ operands id found. IsResult-kept operation old new operands id k (r.at operands id found) }

pub AreResults-unchanged : (operation : Operation) (nodes : List Branch) (table after : Operands → Option ℕ) → ((q : Operands) → after q ≡ table q) → AreResults operation nodes table → AreResults operation nodes after
AreResults-unchanged operation nodes table after same r = record { at = λ operands id found. r.at operands id (sym (same operands) ∙ found) }

same_operands-true : (x y : Operands) → same_operands x y ≡ true → x ≡ y
same_operands-true x y h =
    let parts = and_parts (nat_eq x.low y.low) (nat_eq x.high y.high) h in
    let low = eqb-true x.low y.low parts.0 in
    let high = eqb-true x.high y.high parts.1 in
    λ j. record { low = low j; high = high j }

-- with one result more
pub AreResults-inserted : (operation : Operation) (nodes : List Branch) (table after : Operands → Option ℕ) (key : Operands) (id : ℕ) → ((q : Operands) → after q ≡ cond (same_operands key q) (Some id) (table q))
    → IsResult operation nodes key id → AreResults operation nodes table → AreResults operation nodes after
AreResults-inserted operation nodes table after key id updates result r = record { at = λ operands k found. by operands k found (same_operands key operands) refl }
  where
    by : (operands : Operands) (k : ℕ) → after operands ≡ Some k → (c : Bool) → same_operands key operands ≡ c → IsResult operation nodes operands k
    by operands k found true e =
        let at : after operands ≡ Some id = updates operands ∙ ap (λ c. cond c (Some id) (table operands)) e in
        let is : id ≡ k = cc in
        subst (λ o. IsResult operation nodes o k) (same_operands-true key operands e) (subst (IsResult operation nodes key) is result)
    by operands k found false e =
        let at : after operands ≡ table operands = updates operands ∙ ap (λ c. cond c (Some id) (table operands)) e in
        r.at operands k (sym at ∙ found)
