-- Lemmas on one step of an operation: both nodes are split by the sign of the variable that is tested first.
use Rattle.std.proofs.Common.{◌≡◌, ℕ, ◌+◌, ◌<◌, ◌≤◌, min, max, Bool, true, false, not, if◌then◌else◌, refl, sym, ap, ◌∙◌, arith, List, ◌⊎◌, inl, inr, Result, Ok, Err, IfOk}
use Rattle.std.proofs.lemmas.Bool.{cases_order, lt-ltb, le-ltb}
use Rattle.waf_base.specs.declared.meter.Meter.{Meter}
use Rattle.waf_base.specs.declared.refusal.Stop.{Stop}
use Rattle.decision_graph.specs.Grows.{Grows, StopsFull}
use Rattle.decision_graph.specs.Joined.{joined, negation}
use Rattle.decision_graph.specs.Nodes.{IsId, value, first_variable, no_variable, IsNodeOf, chosen}
use Rattle.decision_graph.specs.Reduced.{IsReduced, IsTest}
use Rattle.decision_graph.specs.Signs.{Signs, Function, Same, DependsFrom, Becomes, given}
use Rattle.decision_graph.specs.Split.{IsSplit}
use Rattle.decision_graph.specs.declared.branch.Branch.{Branch}
use Rattle.decision_graph.specs.declared.operation.Operation.{Operation}
use Rattle.decision_graph.specs.declared.operation.Operation.TheVariants.{Differ}
use Rattle.decision_graph.proofs.CanonicalLemmas.{canonical}
use Rattle.decision_graph.proofs.GrowLemmas.{Grows-kind, Grows-trans, StopsFull-after}
use Rattle.decision_graph.proofs.JoinedLemmas.{joined-same, joined-chosen, DependsFrom-joined}
use Rattle.decision_graph.proofs.NodeLemmas.{Branching, branching, DependsFrom-value, first_variable-most, first_variable-constant, value-yes}
use Rattle.decision_graph.proofs.SignLemmas.{put, put-same, put-other, put-DependsFrom, hi_of_chosen, lo_of_chosen, Same-sym, Same-trans, DependsFrom-weaker, DependsFrom-Same}

chosen_same : (c x : Bool) → x ≡ (if c then x else x)
chosen_same true x = refl
chosen_same false x = refl

-- a node that does not test the variable is its own parts
pub IsSplit-unchanged : (nodes : List Branch) (variable a : ℕ) → IsId nodes a → variable < first_variable nodes a → IsSplit nodes variable a a a
IsSplit-unchanged nodes variable a h lt = record {
  hi = h;
  lo = h;
  hi_most = omega arith;
  lo_most = omega arith;
  hi_before = λ e. absurd (omega arith);
  lo_before = λ e. absurd (omega arith);
  above_hi = lt;
  above_lo = lt;
  same = record { at = λ s. chosen_same (s variable) (value nodes a s) };
}

-- the variable of a test is less than that of a constant
pub least_of_test : (nodes : List Branch) (a b : ℕ) (x : Branch) → IsReduced nodes → IsTest nodes a x → b < 2 → x.var ≡ min (first_variable nodes a) (first_variable nodes b)
least_of_test nodes a b x r t lt =
    let first : first_variable nodes a ≡ x.var = t.first in
    let none : first_variable nodes b ≡ no_variable = first_variable-constant nodes b lt in
    let above : x.var < first_variable nodes x.hi = t.above_hi in
    let most : first_variable nodes x.hi ≤ no_variable = first_variable-most nodes r x.hi t.hi in
    omega arith

pub least_of_other_test : (nodes : List Branch) (a b : ℕ) (y : Branch) → IsReduced nodes → IsTest nodes b y → a < 2 → y.var ≡ min (first_variable nodes a) (first_variable nodes b)
least_of_other_test nodes a b y r t lt =
    let first : first_variable nodes b ≡ y.var = t.first in
    let none : first_variable nodes a ≡ no_variable = first_variable-constant nodes a lt in
    let above : y.var < first_variable nodes y.hi = t.above_hi in
    let most : first_variable nodes y.hi ≤ no_variable = first_variable-most nodes r y.hi t.hi in
    omega arith

-- a node whose function looks at no variable below one tests none below it
pub first_variable-DependsFrom : (nodes : List Branch) → IsReduced nodes → (a first : ℕ) → IsId nodes a → first ≤ no_variable → DependsFrom first (value nodes a) → first ≤ first_variable nodes a
first_variable-DependsFrom nodes r a first h most d = by (cases_order a 1)
  where
    tests : (y : Branching nodes a) → (y.branch.var ≡ first) ⊎ ((y.branch.var < first) ⊎ (first < y.branch.var)) → first ≤ first_variable nodes a
    tests y (inl e) = let is : first_variable nodes a ≡ y.branch.var = y.test.first in omega arith
    tests y (inr (inr gt)) = let is : first_variable nodes a ≡ y.branch.var = y.test.first in omega arith
    tests y (inr (inl lt)) =
        let t = y.test in
        let v : ℕ = y.branch.var in
        let hi = hi_of_chosen (value nodes y.branch.lo) v (first_variable nodes y.branch.hi) t.above_hi (DependsFrom-value nodes r y.branch.hi t.hi) t.value in
        let lo = lo_of_chosen (value nodes y.branch.hi) v (first_variable nodes y.branch.lo) t.above_lo (DependsFrom-value nodes r y.branch.lo t.lo) t.value in
        absurd (t.apart ((canonical nodes r).same_id y.branch.hi y.branch.lo t.hi t.lo (record { at = λ s. hi s ∙ put-DependsFrom s v first true lt d ∙ sym (put-DependsFrom s v first false lt d) ∙ sym (lo s) })))

    constant : a < 2 → first ≤ first_variable nodes a
    constant lt = let none : first_variable nodes a ≡ no_variable = first_variable-constant nodes a lt in omega arith

    by : (a ≡ 1) ⊎ ((a < 1) ⊎ (1 < a)) → first ≤ first_variable nodes a
    by (inl e) = constant (omega arith)
    by (inr (inl lt)) = constant (omega arith)
    by (inr (inr gt)) = let y = branching nodes r a h (omega arith) in tests y (cases_order y.branch.var first)

pub given-below : (count : ℕ) (signs s : Signs) (w : ℕ) → w < count → given count signs s w ≡ signs w
given-below count signs s w lt = ap (λ c. if c then signs w else s w) (lt-ltb w count lt)

pub given-above : (count : ℕ) (signs s : Signs) (w : ℕ) → count ≤ w → given count signs s w ≡ s w
given-above count signs s w le = ap (λ c. if c then signs w else s w) (le-ltb w count le)

-- a function becomes itself when no variable is given a sign
pub Becomes-same : {f g : Function} → Same f g → Becomes f g
Becomes-same {f} {g} same = record { count = 0; signs = λ _. true; same = record { at = λ s. ap f (λ j. λ w. given-above 0 (λ _. true) s w (omega arith) j) ∙ same.at s } }

pub Becomes-from : {f k : Function} (g : Function) → Same f k → Becomes f g → Becomes k g
Becomes-from {f} {k} g same b = record { count = b.count; signs = b.signs; same = record { at = λ s. sym (same.at (given b.count b.signs s)) ∙ b.same.at s } }

pub Becomes-to : {f : Function} (g k : Function) → Same g k → Becomes f g → Becomes f k
Becomes-to g k same b = record { count = b.count; signs = b.signs; same = Same-trans b.same same }

-- what a part for one sign of a variable becomes, the whole becomes
pub Becomes-part : {f part : Function} (v : ℕ) (sign : Bool) → DependsFrom (v + 1) part → ((s : Signs) → s v ≡ sign → f s ≡ part s) → (g : Function) → Becomes part g → Becomes f g
Becomes-part {f} {part} v sign d at g b = record {
  count = max b.count (v + 1);
  signs = put b.signs v sign;
  same = record { at = λ s. at (all s) (there s) ∙ d.at (all s) (given b.count b.signs s) (λ w le. agrees s w le (cases_order w b.count)) ∙ b.same.at s };
}
  where
    all : Signs → Signs
    all s = given (max b.count (v + 1)) (put b.signs v sign) s

    there : (s : Signs) → given (max b.count (v + 1)) (put b.signs v sign) s v ≡ sign
    there s = given-below (max b.count (v + 1)) (put b.signs v sign) s v (omega arith) ∙ put-same b.signs v sign

    beyond : (s : Signs) (w : ℕ) → v + 1 ≤ w → b.count ≤ w → given (max b.count (v + 1)) (put b.signs v sign) s w ≡ given b.count b.signs s w
    beyond s w le most = given-above (max b.count (v + 1)) (put b.signs v sign) s w (omega arith) ∙ sym (given-above b.count b.signs s w most)

    agrees : (s : Signs) (w : ℕ) → v + 1 ≤ w → (w ≡ b.count) ⊎ ((w < b.count) ⊎ (b.count < w)) → given (max b.count (v + 1)) (put b.signs v sign) s w ≡ given b.count b.signs s w
    agrees s w le (inl e) = beyond s w le (omega arith)
    agrees s w le (inr (inr gt)) = beyond s w le (omega arith)
    agrees s w le (inr (inl lt)) = given-below (max b.count (v + 1)) (put b.signs v sign) s w (omega arith) ∙ put-other b.signs v sign w (λ e. absurd (omega arith)) ∙ sym (given-below b.count b.signs s w lt)

-- the parts of an operation on two nodes that are split
module _ (operation : Operation) (nodes : List Branch) (variable a b a_hi a_lo b_hi b_lo : ℕ) (r : IsReduced nodes) (sa : IsSplit nodes variable a a_hi a_lo) (sb : IsSplit nodes variable b b_hi b_lo) where
  abbrev pub whole : Function
  whole = joined operation (value nodes a) (value nodes b)

  abbrev pub hi_part : Function
  hi_part = joined operation (value nodes a_hi) (value nodes b_hi)

  abbrev pub lo_part : Function
  lo_part = joined operation (value nodes a_lo) (value nodes b_lo)

  pub whole_is : Same whole (chosen variable hi_part lo_part)
  whole_is = Same-trans (joined-same operation sa.same sb.same) (joined-chosen operation variable (value nodes a_hi) (value nodes a_lo) (value nodes b_hi) (value nodes b_lo))

  pub hi_depends : DependsFrom (variable + 1) hi_part
  hi_depends = DependsFrom-joined operation (variable + 1)
      (DependsFrom-weaker (first_variable nodes a_hi) (variable + 1) (omega (arith, sa.above_hi)) (DependsFrom-value nodes r a_hi sa.hi))
      (DependsFrom-weaker (first_variable nodes b_hi) (variable + 1) (omega (arith, sb.above_hi)) (DependsFrom-value nodes r b_hi sb.hi))

  pub lo_depends : DependsFrom (variable + 1) lo_part
  lo_depends = DependsFrom-joined operation (variable + 1)
      (DependsFrom-weaker (first_variable nodes a_lo) (variable + 1) (omega (arith, sa.above_lo)) (DependsFrom-value nodes r a_lo sa.lo))
      (DependsFrom-weaker (first_variable nodes b_lo) (variable + 1) (omega (arith, sb.above_lo)) (DependsFrom-value nodes r b_lo sb.lo))

  pub hi_becomes : (g : Function) → Becomes hi_part g → Becomes whole g
  hi_becomes = Becomes-part variable true hi_depends (λ s e. whole_is.at s ∙ ap (λ c. if c then hi_part s else lo_part s) e)

  pub lo_becomes : (g : Function) → Becomes lo_part g → Becomes whole g
  lo_becomes = Becomes-part variable false lo_depends (λ s e. whole_is.at s ∙ ap (λ c. if c then hi_part s else lo_part s) e)

  -- the first part was worked out, which took the graph to g1
  module _ (g1 : List Branch) (m0 m1 : Meter) (first : Grows (Becomes hi_part) nodes g1 m0 m1) where
    pub grows_hi : Grows (Becomes whole) nodes g1 m0 m1
    grows_hi = Grows-kind (Becomes hi_part) (Becomes whole) nodes g1 m0 m1 first hi_becomes

    pub stops_hi : StopsFull (Becomes hi_part) nodes g1 m0 m1 → StopsFull (Becomes whole) nodes g1 m0 m1
    stops_hi stop = StopsFull-after (Becomes hi_part) (Becomes whole) nodes nodes g1 m0 m0 m1 grows_hi stop hi_becomes

    -- the second part, as it is stated of g1
    abbrev pub lo_then : Function
    lo_then = joined operation (value g1 a_lo) (value g1 b_lo)

    lo_same : Same lo_then lo_part
    lo_same = joined-same operation (first.keeps.functions a_lo sa.lo) (first.keeps.functions b_lo sb.lo)

    lo_then_becomes : (g : Function) → Becomes lo_then g → Becomes whole g
    lo_then_becomes g b = lo_becomes g (Becomes-from g lo_same b)

    -- the second part was worked out, which took the graph to g2
    module _ (g2 : List Branch) (m2 : Meter) (second : Grows (Becomes lo_then) g1 g2 m1 m2) where
      pub grows_lo : Grows (Becomes whole) nodes g2 m0 m2
      grows_lo = Grows-trans (Becomes whole) nodes g1 g2 m0 m1 m2 grows_hi (Grows-kind (Becomes lo_then) (Becomes whole) g1 g2 m1 m2 second lo_then_becomes) Becomes-to

      pub stops_lo : StopsFull (Becomes lo_then) g1 g2 m1 m2 → StopsFull (Becomes whole) nodes g2 m0 m2
      stops_lo stop = StopsFull-after (Becomes lo_then) (Becomes whole) nodes g1 g2 m0 m1 m2 grows_lo stop lo_then_becomes

      -- with the results of both parts
      module _ (hi lo : ℕ) (hi_is : IsNodeOf g1 hi_part hi) (lo_is : IsNodeOf g2 lo_then lo) where
        most : variable + 1 ≤ no_variable
        most = omega (arith, sa.above_hi, first_variable-most nodes r a_hi sa.hi)

        pub node_variables : (variable < first_variable g2 hi) × (variable < first_variable g2 lo)
        node_variables =
            let above_hi = first_variable-DependsFrom g1 first.reduced hi (variable + 1) hi_is.is_id most (DependsFrom-Same (variable + 1) (Same-sym hi_is.same) hi_depends) in
            let above_lo = first_variable-DependsFrom g2 second.reduced lo (variable + 1) lo_is.is_id most (DependsFrom-Same (variable + 1) (Same-sym (Same-trans lo_is.same lo_same)) lo_depends) in
            (omega (arith, above_hi, second.keeps.variables hi hi_is.is_id), omega (arith, above_lo))

        -- the function of the node that is then made
        abbrev pub node_then : Function
        node_then = chosen variable (value g2 hi) (value g2 lo)

        node_same : Same node_then whole
        node_same =
            let hi_same = Same-trans (second.keeps.functions hi hi_is.is_id) hi_is.same in
            let lo_same_too = Same-trans lo_is.same lo_same in
            record { at = λ s. (λ j. if s variable then (hi_same.at s) j else (lo_same_too.at s) j) ∙ sym (whole_is.at s) }

        node_becomes : (g : Function) → Same node_then g → Becomes whole g
        node_becomes g same = Becomes-same (Same-trans (Same-sym node_same) same)

        -- the node was made, which took the graph to g3
        module _ (g3 : List Branch) (m3 : Meter) (third : Grows (Same node_then) g2 g3 m2 m3) where
          pub grows_node : Grows (Becomes whole) nodes g3 m0 m3
          grows_node = Grows-trans (Becomes whole) nodes g2 g3 m0 m2 m3 grows_lo (Grows-kind (Same node_then) (Becomes whole) g2 g3 m2 m3 third node_becomes) Becomes-to

          pub stops_node : StopsFull (Same node_then) g2 g3 m2 m3 → StopsFull (Becomes whole) nodes g3 m0 m3
          stops_node stop = StopsFull-after (Same node_then) (Becomes whole) nodes g2 g3 m0 m2 m3 grows_node stop node_becomes

          pub result_is : (id : ℕ) → IsNodeOf g3 node_then id → IsNodeOf g3 whole id
          result_is id h = record { is_id = h.is_id; same = Same-trans h.same node_same }

          -- the result, as it is stated of g3
          pub result_then : (id : ℕ) → IsId nodes a → IsId nodes b → IsNodeOf g3 node_then id → IsNodeOf g3 (joined operation (value g3 a) (value g3 b)) id
          result_then id ha hb h =
              let keeps = grows_node.keeps in
              let same = joined-same operation (keeps.functions a ha) (keeps.functions b hb) in
              record { is_id = h.is_id; same = Same-trans (Same-trans h.same node_same) (Same-sym same) }

-- the difference from yes is the negation
pub negated : (nodes : List Branch) (a k : ℕ) → k ≡ 1 → Same (joined Differ (value nodes a) (value nodes k)) (negation (value nodes a))
negated nodes a k e = record { at = λ s. ap (λ y. if value nodes a s then not y else y) ((value-yes nodes k e).at s) ∙ by (value nodes a s) }
  where
    by : (x : Bool) → (if x then not true else true) ≡ not x
    by true = refl
    by false = refl

-- the clauses of a difference from yes, as clauses of a negation
pub IsNodeOf-negated : (old new : List Branch) (a k : ℕ) (r : Result ℕ Stop) → k ≡ 1 → IfOk r (IsNodeOf new (joined Differ (value old a) (value old k))) → IfOk r (IsNodeOf new (negation (value old a)))
IsNodeOf-negated old new a k (Ok id) e h = record { is_id = h.is_id; same = Same-trans h.same (negated old a k e) }
IsNodeOf-negated old new a k (Err stop) e h = tt

pub Grows-negated : (old new : List Branch) (a k : ℕ) (m n : Meter) → k ≡ 1 → Grows (Becomes (joined Differ (value old a) (value old k))) old new m n → Grows (Becomes (negation (value old a))) old new m n
Grows-negated old new a k m n e g = Grows-kind (Becomes (joined Differ (value old a) (value old k))) (Becomes (negation (value old a))) old new m n g (λ f b. Becomes-from f (negated old a k e) b)

pub StopsFull-negated : (old new : List Branch) (a k : ℕ) (m n : Meter) → k ≡ 1 → Grows (Becomes (joined Differ (value old a) (value old k))) old new m n → StopsFull (Becomes (joined Differ (value old a) (value old k))) old new m n → StopsFull (Becomes (negation (value old a))) old new m n
StopsFull-negated old new a k m n e g stop =
    StopsFull-after (Becomes (joined Differ (value old a) (value old k))) (Becomes (negation (value old a))) old old new m m n (Grows-negated old new a k m n e g) stop (λ f b. Becomes-from f (negated old a k e) b)
