-- Lemmas on graphs that grow, and on the count of their new nodes.
use Rattle.std.proofs.Common.{◌≡◌, ℕ, ◌+◌, ◌-◌, ◌<◌, ◌≤◌, nat_lt, if◌then◌else◌, refl, sym, ap, ◌∙◌, arith, subst, List, ◌∷◌, length, ◌⊎◌, inl, inr}
use Rattle.std.proofs.lemmas.Bool.{cases_order, lt-ltb, le-ltb}
use Rattle.waf_base.specs.Members.{AtLeast, AtMost, Exactly}
use Rattle.waf_base.specs.declared.meter.Meter.{Meter}
use Rattle.decision_graph.specs.Grows.{Keeps, Wanting, GotNode, Grows, StopsFull}
use Rattle.decision_graph.specs.Signs.{Function, Same}
use Rattle.decision_graph.specs.Nodes.{next_id, IsId, value, HasNode, IsNodeOf, chosen}
use Rattle.decision_graph.specs.Reduced.{MayFollow, IsReduced, IsCanonical}
use Rattle.decision_graph.specs.declared.branch.Branch.{Branch}
use Rattle.decision_graph.proofs.SignLemmas.{Same-sym, Same-trans, Same-refl}
use Rattle.decision_graph.proofs.NodeLemmas.{value-older, value-newest, first_variable-older}
use Rattle.decision_graph.proofs.CanonicalLemmas.{canonical, no_older}

pub Keeps-refl : (nodes : List Branch) → Keeps nodes nodes
Keeps-refl nodes = record { ids = omega arith; functions = λ a h. Same-refl (value nodes a); variables = λ a h. refl }

pub Keeps-newest : (b : Branch) (older : List Branch) → Keeps older (b ∷ older)
Keeps-newest b older = record {
  ids = omega arith;
  functions = λ a h. record { at = value-older b older a h };
  variables = λ a h. first_variable-older b older a h;
}

pub IsId-kept : (old new : List Branch) (a : ℕ) → Keeps old new → IsId old a → IsId new a
IsId-kept old new a k h = omega (arith, k.ids)

pub Keeps-trans : (a b c : List Branch) → Keeps a b → Keeps b c → Keeps a c
Keeps-trans a b c k m = record {
  ids = omega (arith, k.ids, m.ids);
  functions = λ i h. Same-trans (m.functions i (IsId-kept a b i k h)) (k.functions i h);
  variables = λ i h. m.variables i (IsId-kept a b i k h) ∙ k.variables i h;
}

pub HasNode-kept : (old new : List Branch) (f : Function) → Keeps old new → HasNode old f → HasNode new f
HasNode-kept old new f k h = record { id = h.id; is_id = IsId-kept old new h.id k h.is_id; same = Same-trans (k.functions h.id h.is_id) h.same }

-- the new nodes of a graph, of which each has a function of the kind
module _ (IsKind : Function → Type 0) (old new : List Branch) (keeps : Keeps old new) (only : IsCanonical new)
    (of_kind : (a : ℕ) → length old + 2 ≤ a → IsId new a → IsKind (value new a)) where
  -- the functions of the new nodes, numbered from 0
  abbrev pub new_function : ℕ → Function
  new_function i = value new (length old + 2 + i)

  -- no node that was there has the function of a new one
  pub lacked : (i : ℕ) → length old + 2 + i < length new + 2 → HasNode old (new_function i) → ⊥
  lacked i lt h =
      let e : h.id ≡ length old + 2 + i = only.same_id h.id (length old + 2 + i) (IsId-kept old new h.id keeps h.is_id) lt (Same-trans (keeps.functions h.id h.is_id) h.same) in
      let below : h.id < length old + 2 = h.is_id in
      absurd (omega arith)

  pub new_different : (i j : ℕ) → i < j → length old + 2 + j < length new + 2 → Same (new_function i) (new_function j) → ⊥
  new_different i j lt h same =
      let e : length old + 2 + i ≡ length old + 2 + j = only.same_id (length old + 2 + i) (length old + 2 + j) (omega arith) h same in
      absurd (omega arith)

  module _ (n : ℕ) (count : n + length old ≡ length new) where
    pub wanted : AtLeast Same n (Wanting old IsKind)
    wanted = record {
      member = new_function;
      of_kind = λ i lt. record { of_kind = of_kind (length old + 2 + i) (omega arith) (omega arith); lacking = lacked i (omega arith) };
      different = λ i j lt h same. new_different i j lt (omega arith) same;
    }

    new_at_least : AtLeast Same n (GotNode old new)
    new_at_least = record {
      member = new_function;
      of_kind = λ i lt. record { has = record { id = length old + 2 + i; is_id = omega arith; same = Same-refl (new_function i) }; lacked = lacked i (omega arith) };
      different = λ i j lt h same. new_different i j lt (omega arith) same;
    }

    -- a node with a function that no old node had is a new one
    got_new : (f : Function) (g : GotNode old new f) → length old + 2 ≤ g.has.id
    got_new f g = by (cases_order g.has.id (length old + 2))
      where
        by : (g.has.id ≡ length old + 2) ⊎ ((g.has.id < length old + 2) ⊎ (length old + 2 < g.has.id)) → length old + 2 ≤ g.has.id
        by (inl e) = omega arith
        by (inr (inl lt)) = absurd (g.lacked (record { id = g.has.id; is_id = lt; same = Same-trans (Same-sym (keeps.functions g.has.id lt)) g.has.same }))
        by (inr (inr lt)) = omega arith

    new_at_most : AtMost Same n (GotNode old new)
    new_at_most = record {
      member = new_function;
      number = λ f g. g.has.id - (length old + 2);
      below = λ f g. omega (arith, got_new f g, g.has.is_id);
      same = λ f g. let e : length old + 2 + (g.has.id - (length old + 2)) ≡ g.has.id = omega (arith, got_new f g) in let P : ℕ → Type 0 = λ k. Same (value new k) f in subst P (sym e) g.has.same;
    }

    pub got : Exactly Same n (GotNode old new)
    got = record { at_least = new_at_least; at_most = new_at_most }

    -- the functions of the new nodes, and a further one
    abbrev with_last : Function → ℕ → Function
    with_last f i = if nat_lt i n then new_function i else f

    -- with a further function of the kind that has no node
    pub one_more : (f : Function) → Wanting new IsKind f → AtLeast Same (n + 1) (Wanting old IsKind)
    unfolding wanted
    one_more f w = record {
      member = with_last f;
      of_kind = λ i lt. kinds i lt (cases_order i n);
      different = λ i j lt h same. apart i j lt h same (cases_order j n);
    }
      where
        before : (i : ℕ) → i < n → with_last f i ≡ new_function i
        before i lt = ap (λ c. if c then new_function i else f) (lt-ltb i n lt)

        last : (i : ℕ) → n ≤ i → with_last f i ≡ f
        last i le = ap (λ c. if c then new_function i else f) (le-ltb i n le)

        kinds : (i : ℕ) → i < n + 1 → (i ≡ n) ⊎ ((i < n) ⊎ (n < i)) → Wanting old IsKind (with_last f i)
        kinds i h (inl e) = subst (Wanting old IsKind) (sym (last i (omega arith))) (record { of_kind = w.of_kind; lacking = λ has. w.lacking (HasNode-kept old new f keeps has) })
        kinds i h (inr (inl lt)) = subst (Wanting old IsKind) (sym (before i lt)) (wanted.of_kind i lt)
        kinds i h (inr (inr gt)) = absurd (omega arith)

        apart : (i j : ℕ) → i < j → j < n + 1 → Same (with_last f i) (with_last f j) → (j ≡ n) ⊎ ((j < n) ⊎ (n < j)) → ⊥
        apart i j lt h same (inl e) =
            let first : with_last f i ≡ new_function i = before i (omega arith) in
            let second : with_last f j ≡ f = last j (omega arith) in
            let both : Same (new_function i) f = subst (λ g. Same (new_function i) g) second (subst (λ g. Same g (with_last f j)) first same) in
            w.lacking (record { id = length old + 2 + i; is_id = omega arith; same = both })
        apart i j lt h same (inr (inl less)) =
            let first : with_last f i ≡ new_function i = before i (omega arith) in
            let second : with_last f j ≡ new_function j = before j less in
            new_different i j lt (omega arith) (subst (λ g. Same (new_function i) g) second (subst (λ g. Same g (with_last f j)) first same))
        apart i j lt h same (inr (inr gt)) = absurd (omega arith)

-- A graph grows where it keeps its nodes, is reduced, and each new node was counted and has a function of the kind.
pub grows : (IsKind : Function → Type 0) (old new : List Branch) (before after : Meter) → Keeps old new → IsReduced new → after.limit ≡ before.limit → after.made + length old ≡ before.made + length new
    → ((a : ℕ) → length old + 2 ≤ a → IsId new a → IsKind (value new a)) → Grows IsKind old new before after
grows IsKind old new before after keeps reduced limit counted of_kind =
    let count : after.made - before.made + length old ≡ length new = omega (arith, keeps.ids) in
    record {
      keeps = keeps;
      reduced = reduced;
      canonical = canonical new reduced;
      limit = limit;
      counted = counted;
      of_kind = of_kind;
      got = got IsKind old new keeps (canonical new reduced) of_kind (after.made - before.made) count;
      wanted = wanted IsKind old new keeps (canonical new reduced) of_kind (after.made - before.made) count;
    }

-- a call that changes nothing
pub Grows-unchanged : (IsKind : Function → Type 0) (nodes : List Branch) (meter : Meter) → IsReduced nodes → Grows IsKind nodes nodes meter meter
Grows-unchanged IsKind nodes meter r = grows IsKind nodes nodes meter meter (Keeps-refl nodes) r refl refl (λ a le lt. absurd (omega arith))

-- one new node, which is counted
pub Grows-newest : (b : Branch) (nodes : List Branch) (before after : Meter) → IsReduced nodes → MayFollow nodes b → after.limit ≡ before.limit → after.made ≡ before.made + 1
    → Grows (Same (chosen b.var (value nodes b.hi) (value nodes b.lo))) nodes (b ∷ nodes) before after
Grows-newest b nodes before after r f limit made =
    grows (Same (chosen b.var (value nodes b.hi) (value nodes b.lo))) nodes (b ∷ nodes) before after (Keeps-newest b nodes) (f, r) limit (omega arith) kind
  where
    newest : Same (chosen b.var (value nodes b.hi) (value nodes b.lo)) (value (b ∷ nodes) (length nodes + 2))
    newest = record { at = λ s. sym (value-newest b nodes s) }

    kind : (a : ℕ) → length nodes + 2 ≤ a → IsId (b ∷ nodes) a → Same (chosen b.var (value nodes b.hi) (value nodes b.lo)) (value (b ∷ nodes) a)
    kind a le lt = let e : length nodes + 2 ≡ a = omega arith in let P : ℕ → Type 0 = λ k. Same (chosen b.var (value nodes b.hi) (value nodes b.lo)) (value (b ∷ nodes) k) in subst P e newest

-- two calls, one after the other
pub Grows-trans : (IsKind : Function → Type 0) (a b c : List Branch) (m n o : Meter) → Grows IsKind a b m n → Grows IsKind b c n o
    → ((f g : Function) → Same f g → IsKind f → IsKind g) → Grows IsKind a c m o
Grows-trans IsKind a b c m n o first second respects =
    grows IsKind a c m o (Keeps-trans a b c first.keeps second.keeps) second.reduced (second.limit ∙ first.limit) (omega (arith, first.counted, second.counted)) (λ i le lt. kind i le lt (cases_order i (length b + 2)))
  where
    later : (i : ℕ) → length b + 2 ≤ i → IsId c i → IsKind (value c i)
    later i le lt = second.of_kind i le lt

    kind : (i : ℕ) → length a + 2 ≤ i → IsId c i → (i ≡ length b + 2) ⊎ ((i < length b + 2) ⊎ (length b + 2 < i)) → IsKind (value c i)
    kind i le lt (inl e) = later i (omega arith) lt
    kind i le lt (inr (inl less)) = respects (value b i) (value c i) (Same-sym (second.keeps.functions i less)) (first.of_kind i le less)
    kind i le lt (inr (inr more)) = later i (omega arith) lt

pub Grows-kind : (IsKind IsOther : Function → Type 0) (a b : List Branch) (m n : Meter) → Grows IsKind a b m n → ((f : Function) → IsKind f → IsOther f) → Grows IsOther a b m n
Grows-kind IsKind IsOther a b m n g wider = grows IsOther a b m n g.keeps g.reduced g.limit g.counted (λ i le lt. wider (value b i) (g.of_kind i le lt))

-- the meter is full, and a function of the kind has no node
pub stops_full : (IsKind : Function → Type 0) (old new : List Branch) (before after : Meter) → Grows IsKind old new before after → after.made ≡ after.limit → (f : Function) → Wanting new IsKind f → StopsFull IsKind old new before after
stops_full IsKind old new before after g full f w =
    let count : before.limit - before.made + length old ≡ length new = omega (arith, g.counted, g.limit, g.keeps.ids) in
    record {
      full = full;
      function = f;
      wanting = w;
      number = one_more IsKind old new g.keeps g.canonical g.of_kind (before.limit - before.made) count f w;
    }

-- a call that stopped, after one that did not, and for another kind
pub StopsFull-after : (IsKind IsOther : Function → Type 0) (a b c : List Branch) (m n o : Meter) → Grows IsOther a c m o → StopsFull IsKind b c n o → ((f : Function) → IsKind f → IsOther f) → StopsFull IsOther a c m o
StopsFull-after IsKind IsOther a b c m n o g stop wider =
    stops_full IsOther a c m o g stop.full stop.function (record { of_kind = wider stop.function stop.wanting.of_kind; lacking = stop.wanting.lacking })

pub HasNode-of : (nodes : List Branch) (f : Function) (id : ℕ) → IsNodeOf nodes f id → HasNode nodes f
HasNode-of nodes f id h = record { id = id; is_id = h.is_id; same = h.same }

-- no node has the function of a node that may follow
pub lacks : (nodes : List Branch) (b : Branch) → IsReduced nodes → MayFollow nodes b → HasNode nodes (chosen b.var (value nodes b.hi) (value nodes b.lo)) → ⊥
lacks nodes b r f h = no_older b nodes r (canonical nodes r) f h.id h.is_id (Same-sym h.same)

pub IsNodeOf-newest : (nodes : List Branch) (b : Branch) → IsNodeOf (b ∷ nodes) (chosen b.var (value nodes b.hi) (value nodes b.lo)) (next_id nodes)
IsNodeOf-newest nodes b = record { is_id = omega arith; same = record { at = value-newest b nodes } }

-- Full at a node that is wanting
pub StopsFull-now : (nodes : List Branch) (f : Function) (meter : Meter) → IsReduced nodes → (HasNode nodes f → ⊥) → meter.made ≡ meter.limit → StopsFull (Same f) nodes nodes meter meter
StopsFull-now nodes f meter r lacking full = stops_full (Same f) nodes nodes meter meter (Grows-unchanged (Same f) nodes meter r) full f (record { of_kind = Same-refl f; lacking = lacking })
