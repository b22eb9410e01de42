-- Two numbers of nodes of a reduced graph are equal where their functions are the same.
use Rattle.std.proofs.Common.{◌≡◌, ℕ, ◌<◌, ◌≤◌, true, false, nat_eq, sym, ap, ◌∙◌, arith, subst, List, [], ◌∷◌, Some, None, ◌⊎◌, inl, inr}
use Rattle.std.proofs.lemmas.Bool.{cases_order}
use Rattle.decision_graph.specs.Signs.{Signs, Same, DependsFrom}
use Rattle.decision_graph.specs.Nodes.{next_id, IsId, value, first_variable, no_variable, id_of, chosen}
use Rattle.decision_graph.specs.Reduced.{MayFollow, IsReduced, IsCanonical}
use Rattle.decision_graph.specs.declared.branch.Branch.{Branch}
use Rattle.decision_graph.proofs.SignLemmas.{put, put-DependsFrom, hi_of_chosen, lo_of_chosen, Same-sym, DependsFrom-chosen, DependsFrom-weaker, DependsFrom-Same}
use Rattle.decision_graph.proofs.NodeLemmas.{Branching, branching, DependsFrom-value, first_variable-most, first_variable-constant, newest_or_older, value-older, value-newest}

-- a node and an older one with the function of its test
module _ (x : Branch) (older : List Branch) (r : IsReduced older) (canonical : IsCanonical older) (f : MayFollow older x) (b : ℕ) (h : IsId older b) (same : Same (chosen x.var (value older x.hi) (value older x.lo)) (value older b)) where
  hi_depends : DependsFrom (first_variable older x.hi) (value older x.hi)
  hi_depends = DependsFrom-value older r x.hi f.hi

  lo_depends : DependsFrom (first_variable older x.lo) (value older x.lo)
  lo_depends = DependsFrom-value older r x.lo f.lo

  -- the parts by the older node's function
  hi_is : (s : Signs) → value older x.hi s ≡ value older b (put s x.var true)
  hi_is = hi_of_chosen (value older x.lo) x.var (first_variable older x.hi) f.above_hi hi_depends (Same-sym same)

  lo_is : (s : Signs) → value older x.lo s ≡ value older b (put s x.var false)
  lo_is = lo_of_chosen (value older x.hi) x.var (first_variable older x.lo) f.above_lo lo_depends (Same-sym same)

  -- the older node does not look at the variable
  above : x.var < first_variable older b → ⊥
  above lt =
      let d = DependsFrom-value older r b h in
      f.apart (canonical.same_id x.hi x.lo f.hi f.lo (record { at = λ s. hi_is s ∙ put-DependsFrom s x.var (first_variable older b) true lt d ∙ sym (put-DependsFrom s x.var (first_variable older b) false lt d) ∙ sym (lo_is s) }))

  -- the older node tests the variable first
  equal : (y : Branching older b) → y.branch.var ≡ x.var → ⊥
  equal y e =
      let t = y.test in
      let yhi = hi_of_chosen (value older y.branch.lo) y.branch.var (first_variable older y.branch.hi) t.above_hi (DependsFrom-value older r y.branch.hi t.hi) t.value in
      let ylo = lo_of_chosen (value older y.branch.hi) y.branch.var (first_variable older y.branch.lo) t.above_lo (DependsFrom-value older r y.branch.lo t.lo) t.value in
      let his : y.branch.hi ≡ x.hi = canonical.same_id y.branch.hi x.hi t.hi f.hi (record { at = λ s. yhi s ∙ ap (λ v. value older b (put s v true)) e ∙ sym (hi_is s) }) in
      let los : y.branch.lo ≡ x.lo = canonical.same_id y.branch.lo x.lo t.lo f.lo (record { at = λ s. ylo s ∙ ap (λ v. value older b (put s v false)) e ∙ sym (lo_is s) }) in
      let whole : y.branch ≡ x = λ j. record { var = e j; hi = his j; lo = los j } in
      let none : id_of older y.branch ≡ None = ap (id_of older) whole ∙ f.is_new in
      let some : id_of older y.branch ≡ Some b = y.known in
      absurd (cc)

  -- the older node tests a lesser variable first
  below : (y : Branching older b) → y.branch.var < x.var → ⊥
  below y lt =
      let t = y.test in
      let above_hi : x.var < first_variable older x.hi = f.above_hi in
      let above_lo : x.var < first_variable older x.lo = f.above_lo in
      let d : DependsFrom x.var (value older b) = DependsFrom-Same x.var same (DependsFrom-chosen x.var (DependsFrom-weaker (first_variable older x.hi) x.var (omega arith) hi_depends) (DependsFrom-weaker (first_variable older x.lo) x.var (omega arith) lo_depends)) in
      let yhi = hi_of_chosen (value older y.branch.lo) y.branch.var (first_variable older y.branch.hi) t.above_hi (DependsFrom-value older r y.branch.hi t.hi) t.value in
      let ylo = lo_of_chosen (value older y.branch.hi) y.branch.var (first_variable older y.branch.lo) t.above_lo (DependsFrom-value older r y.branch.lo t.lo) t.value in
      t.apart (canonical.same_id y.branch.hi y.branch.lo t.hi t.lo (record { at = λ s. yhi s ∙ put-DependsFrom s y.branch.var x.var true lt d ∙ sym (put-DependsFrom s y.branch.var x.var false lt d) ∙ sym (ylo s) }))

  -- no older node has the function of a node that may follow
  pub no_older : ⊥
  no_older = by (cases_order b 1)
    where
      constant : b < 2 → ⊥
      constant lt =
          let most : first_variable older x.hi ≤ no_variable = first_variable-most older r x.hi f.hi in
          let none : first_variable older b ≡ no_variable = first_variable-constant older b lt in
          let over : x.var < first_variable older x.hi = f.above_hi in
          above (omega arith)

      tests : (y : Branching older b) → (x.var ≡ y.branch.var) ⊎ ((x.var < y.branch.var) ⊎ (y.branch.var < x.var)) → ⊥
      tests y (inl e) = equal y (sym e)
      tests y (inr (inl lt)) = let first : first_variable older b ≡ y.branch.var = y.test.first in above (omega arith)
      tests y (inr (inr lt)) = below y lt

      by : (b ≡ 1) ⊎ ((b < 1) ⊎ (1 < b)) → ⊥
      by (inl e) = constant (omega arith)
      by (inr (inl lt)) = constant (omega arith)
      by (inr (inr lt)) = let y = branching older r b h (omega arith) in tests y (cases_order x.var y.branch.var)

-- a reduced graph is canonical
pub canonical : (nodes : List Branch) → IsReduced nodes → IsCanonical nodes
canonical [] r = record { same_id = λ a b ha hb same. by a b ha hb (same.at (λ v. true)) }
  where
    by : (a b : ℕ) → a < 2 → b < 2 → nat_eq a 1 ≡ nat_eq b 1 → a ≡ b
    by a b ha hb e = grind arith
canonical (x ∷ older) r = record { same_id = λ a b ha hb same. by (canonical older r.1) a b (newest_or_older x older a ha) (newest_or_older x older b hb) same }
  where
    apart : IsCanonical older → (b : ℕ) → IsId older b → Same (value (x ∷ older) (next_id older)) (value (x ∷ older) b) → ⊥
    apart inner b h same = no_older x older r.1 inner r.0 b h (record { at = λ s. sym (value-newest x older s) ∙ same.at s ∙ value-older x older b h s })

    by : IsCanonical older → (a b : ℕ) → (a ≡ next_id older) ⊎ IsId older a → (b ≡ next_id older) ⊎ IsId older b → Same (value (x ∷ older) a) (value (x ∷ older) b) → a ≡ b
    by inner a b (inl ea) (inl eb) same = ea ∙ sym eb
    by inner a b (inl ea) (inr hb) same = let P : ℕ → Type 0 = λ k. Same (value (x ∷ older) k) (value (x ∷ older) b) in absurd (apart inner b hb (subst P ea same))
    by inner a b (inr ha) (inl eb) same = let P : ℕ → Type 0 = λ k. Same (value (x ∷ older) k) (value (x ∷ older) a) in absurd (apart inner a ha (subst P eb (Same-sym same)))
    by inner a b (inr ha) (inr hb) same = inner.same_id a b ha hb (record { at = λ s. sym (value-older x older a ha s) ∙ same.at s ∙ value-older x older b hb s })
