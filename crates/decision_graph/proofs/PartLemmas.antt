-- What the function of a node becomes when its first variables are given signs has a node too.
use Rattle.std.proofs.Common.{◌≡◌, ℕ, zero, suc, ◌+◌, ◌<◌, ◌≤◌, Bool, true, false, if◌then◌else◌, refl, sym, ap, ◌∙◌, arith, List, length, ◌⊎◌, inl, inr}
use Rattle.std.proofs.lemmas.Bool.{cases_order}
use Rattle.waf_base.specs.declared.meter.Meter.{Meter}
use Rattle.decision_graph.specs.Grows.{Grows}
use Rattle.decision_graph.specs.Nodes.{IsId, value, first_variable, HasNode}
use Rattle.decision_graph.specs.Reduced.{IsReduced}
use Rattle.decision_graph.specs.Signs.{Signs, Function, Becomes, given}
use Rattle.decision_graph.specs.declared.branch.Branch.{Branch}
use Rattle.decision_graph.proofs.GrowLemmas.{lacked}
use Rattle.decision_graph.proofs.NodeLemmas.{Branching, branching, DependsFrom-value, value-constant}
use Rattle.decision_graph.proofs.StepLemmas.{given-above, given-below}

-- a node with less than the fuel as its number
pub part_has_node : (nodes : List Branch) → IsReduced nodes → (count : ℕ) (signs : Signs) (fuel a : ℕ) → a < fuel → IsId nodes a → HasNode nodes (λ s. value nodes a (given count signs s))
part_has_node nodes r count signs zero a lt h = absurd (omega arith)
part_has_node nodes r count signs (suc fuel) a lt h = by (λ k below is. part_has_node nodes r count signs fuel k below is) (cases_order count (first_variable nodes a))
  where
    itself : count ≤ first_variable nodes a → HasNode nodes (λ s. value nodes a (given count signs s))
    itself le = record { id = a; is_id = h; same = record { at = λ s. (DependsFrom-value nodes r a h).at s (given count signs s) (λ w most. sym (given-above count signs s w (omega arith))) } }

    constant : a < 2 → HasNode nodes (λ s. value nodes a (given count signs s))
    constant two = record { id = a; is_id = h; same = record { at = λ s. value-constant nodes a two s ∙ sym (value-constant nodes a two (given count signs s)) } }

    chosen_part : (y : Branching nodes a) → y.branch.var < count → (sign : Bool) → signs y.branch.var ≡ sign → (s : Signs) → value nodes a (given count signs s) ≡ (if sign then value nodes y.branch.hi (given count signs s) else value nodes y.branch.lo (given count signs s))
    chosen_part y less sign is s = y.test.value.at (given count signs s) ∙ ap (λ c. if c then value nodes y.branch.hi (given count signs s) else value nodes y.branch.lo (given count signs s)) (given-below count signs s y.branch.var less ∙ is)

    tests : ((k : ℕ) → k < fuel → IsId nodes k → HasNode nodes (λ s. value nodes k (given count signs s))) → (y : Branching nodes a) → y.branch.var < count → (sign : Bool) → signs y.branch.var ≡ sign → HasNode nodes (λ s. value nodes a (given count signs s))
    tests rest y less true is = let there = rest y.branch.hi (omega (arith, y.test.hi_before)) y.test.hi in record { id = there.id; is_id = there.is_id; same = record { at = λ s. there.same.at s ∙ sym (chosen_part y less true is s) } }
    tests rest y less false is = let there = rest y.branch.lo (omega (arith, y.test.lo_before)) y.test.lo in record { id = there.id; is_id = there.is_id; same = record { at = λ s. there.same.at s ∙ sym (chosen_part y less false is s) } }

    further : ((k : ℕ) → k < fuel → IsId nodes k → HasNode nodes (λ s. value nodes k (given count signs s))) → first_variable nodes a < count → (a ≡ 1) ⊎ ((a < 1) ⊎ (1 < a)) → HasNode nodes (λ s. value nodes a (given count signs s))
    further rest less (inl e) = constant (omega arith)
    further rest less (inr (inl one)) = constant (omega arith)
    further rest less (inr (inr more)) = let y = branching nodes r a h (omega arith) in tests rest y (omega (arith, y.test.first)) (signs y.branch.var) refl

    by : ((k : ℕ) → k < fuel → IsId nodes k → HasNode nodes (λ s. value nodes k (given count signs s))) → (count ≡ first_variable nodes a) ⊎ ((count < first_variable nodes a) ⊎ (first_variable nodes a < count)) → HasNode nodes (λ s. value nodes a (given count signs s))
    by rest (inl e) = itself (omega arith)
    by rest (inr (inl less)) = itself (omega arith)
    by rest (inr (inr more)) = further rest more (cases_order a 1)

pub HasNode-Becomes : (nodes : List Branch) → IsReduced nodes → (f g : Function) → HasNode nodes f → Becomes f g → HasNode nodes g
HasNode-Becomes nodes r f g h b =
    let part = part_has_node nodes r b.count b.signs (h.id + 1) h.id (omega arith) h.is_id in
    record { id = part.id; is_id = part.is_id; same = record { at = λ s. part.same.at s ∙ h.same.at (given b.count b.signs s) ∙ b.same.at s } }

-- where the result had a node at entry, no node was made
pub makes_none : (old new : List Branch) (f : Function) (before after : Meter) → IsReduced old → Grows (Becomes f) old new before after → HasNode old f → after.made ≡ before.made
makes_none old new f before after r g has = by (cases_order (length old) (length new))
  where
    by : (length old ≡ length new) ⊎ ((length old < length new) ⊎ (length new < length old)) → after.made ≡ before.made
    by (inl e) = omega (arith, g.counted)
    by (inr (inr lt)) = absurd (omega (arith, g.keeps.ids))
    by (inr (inl lt)) =
        let a : ℕ = length old + 2 in
        let kind = g.of_kind (length old + 2 + 0) (omega arith) (omega arith) in
        absurd (lacked (Becomes f) old new g.keeps g.canonical g.of_kind 0 (omega arith) (HasNode-Becomes old r f (value new (length old + 2 + 0)) has kind))
