-- The splitting of classes into parts.
use Rattle.std.proofs.Common.{◌≡◌, ℕ, ◌+◌, ◌<◌, ◌≤◌, ◌⊎◌, List, [], ◌∷◌, ◌++◌, length, get_or, set, refl, sym, ap, ◌∙◌, subst, inl, inr, arith, if◌then◌else◌}
use Rattle.std.specs.Prelude.{nat_eq}
use Rattle.std.specs.List.{All, Contains}
use Rattle.std.proofs.lemmas.Bool.{cases_lt, cases_eq, eq-eqb, ne_eqb}
use Rattle.std.proofs.lemmas.List.{length-set, length_push, get_or-set_same, get_or-set_other, get_or_append_left, get_or_push, get_or_default}
use Rattle.std.proofs.lemmas.List.Elements.{All-set, All-push, All-weaker, Contains-get_or}
use Rattle.byte_automata.specs.declared.kind.Kind.{Kind}
use Rattle.byte_automata.specs.Splitting.{AreParts, IsSplit, AllButOneWait, list_at, kind_at}
use Rattle.byte_automata.proofs.Sourced.{put, put-kept, put-added, put-only}

-- ---- the classes and their members
pub parts-none : (members : List (List ℕ)) (largest : List ℕ) → length members ≡ 2 → ((list : ℕ) → list_at members list ≡ []) → length largest ≡ 2 → AreParts 0 2 [] members largest
parts-none members largest l empty s = record {
  lengths = refl;
  below = λ k e h. absurd (omega (arith, h));
  lists = l;
  listed = λ state h. absurd (omega (arith, h));
  within = λ list state h. let none : Contains [] state = subst (λ t. Contains t state) (empty list) h in absurd (omega (arith, none.1));
  sized = s;
}

-- one state more
pub parts-push : (states count class : ℕ) (classes : List ℕ) (members : List (List ℕ)) (largest : List ℕ) → class < count → AreParts states count classes members largest
    → AreParts (states + 1) count (classes ++ class ∷ []) (put members class states) largest
parts-push states count class classes members largest c p =
    let l : class < length members = omega (arith, c, p.lists) in
    record {
      lengths = omega (arith, p.lengths, length_push classes class);
      below = All-push (λ c. c < count) classes class p.below c;
      lists = length-set members class (list_at members class ++ states ∷ []) ∙ p.lists;
      listed = λ state h.
          elim (cases_lt state states) [
            | inl lt ↦
                subst (λ n. Contains (list_at (put members class states) n) state) (sym (get_or_append_left classes (class ∷ []) 0 state (omega (arith, lt, p.lengths))))
                (put-kept members class states l (get_or classes state 0) state (p.listed state lt))
            | inr ge ↦
                let e : states ≡ state = omega (arith, h, ge) in
                subst (λ n. Contains (list_at (put members class states) (get_or (classes ++ class ∷ []) n 0)) n) e
                (subst (λ n. Contains (list_at (put members class states) n) states) (sym (get_or_push classes class 0 states p.lengths)) (put-added members class states l))
          ];
      within = λ list state h.
          elim (put-only members class states l list state h) [
            | inl old ↦ omega (arith, p.within list state old)
            | inr new ↦ omega (arith, new.1)
          ];
      sized = p.sized;
    }

-- one state moved to another class
pub parts-set : (states count class state : ℕ) (classes : List ℕ) (members : List (List ℕ)) (largest : List ℕ) → class < count → state < states → AreParts states count classes members largest
    → AreParts states count (set classes state class) (put members class state) largest
parts-set states count class state classes members largest c l p =
    let m : class < length members = omega (arith, c, p.lists) in
    record {
      lengths = length-set classes state class ∙ p.lengths;
      below = All-set (λ c. c < count) classes state class c p.below;
      lists = length-set members class (list_at members class ++ state ∷ []) ∙ p.lists;
      listed = λ other h.
          elim (cases_eq other state) [
            | inl e ↦
                subst (λ n. Contains (list_at (put members class state) (get_or (set classes state class) n 0)) n) (sym e)
                (subst (λ n. Contains (list_at (put members class state) n) state) (sym (get_or-set_same classes state class 0 (omega (arith, l, p.lengths)))) (put-added members class state m))
            | inr n ↦
                subst (λ n. Contains (list_at (put members class state) n) other) (sym (get_or-set_other classes state other class 0 n)) (put-kept members class state m (get_or classes other 0) other (p.listed other h))
          ];
      within = λ list other h.
          elim (put-only members class state m list other h) [
            | inl old ↦ p.within list other old
            | inr new ↦ subst (λ n. n < states) new.1 l
          ];
      sized = p.sized;
    }

-- classes with no state more
pub parts-grow : (states base count : ℕ) (classes : List ℕ) (members members' : List (List ℕ)) (largest largest' : List ℕ) → base ≤ count → AreParts states base classes members largest
    → length members' ≡ count → ((list : ℕ) → list_at members' list ≡ list_at members list) → length largest' ≡ count → AreParts states count classes members' largest'
parts-grow states base count classes members members' largest largest' l p m same s = record {
  lengths = p.lengths;
  below = All-weaker (λ c. c < base) (λ c. c < count) (λ c h. omega (arith, h, l)) classes p.below;
  lists = m;
  listed = λ state h. subst (λ t. Contains t state) (sym (same (get_or classes state 0))) (p.listed state h);
  within = λ list state h. p.within list state (subst (λ t. Contains t state) (same list) h);
  sized = s;
}

-- the same classes with other notes on their parts
pub parts-noted : (states states' count : ℕ) (classes : List ℕ) (members : List (List ℕ)) (largest largest' : List ℕ) → states ≡ states' → length largest' ≡ length largest → AreParts states count classes members largest → AreParts states' count classes members largest'
parts-noted states states' count classes members largest largest' e l p = record {
  lengths = p.lengths ∙ e;
  below = p.below;
  lists = p.lists;
  listed = λ state h. p.listed state (omega (arith, h, e));
  within = λ list state h. omega (arith, p.within list state h, e);
  sized = l ∙ p.sized;
}

-- ---- the split
-- the first marked states are of the classes of their groups
pub record IsSplitBelow (before after marked groups : List ℕ) (base bound : ℕ) : Type 0 where
  pub moved : (k : ℕ) → k < bound → get_or after (get_or marked k 0) 0 ≡ base + get_or groups k 0
  pub kept : (state : ℕ) → ((k : ℕ) → k < bound → get_or marked k 0 ≡ state → ⊥) → get_or after state 0 ≡ get_or before state 0

pub split-none : (before marked groups : List ℕ) (base : ℕ) → IsSplitBelow before before marked groups base 0
split-none before marked groups base = record { moved = λ k h. absurd (omega (arith, h)); kept = λ state h. refl }

pub split-more : (before after marked groups : List ℕ) (base i : ℕ) → i < length marked → get_or marked i 0 < length after
    → ((k j : ℕ) → k < length marked → j < length marked → get_or marked k 0 ≡ get_or marked j 0 → get_or groups k 0 ≡ get_or groups j 0)
    → IsSplitBelow before after marked groups base i → IsSplitBelow before (set after (get_or marked i 0) (base + get_or groups i 0)) marked groups base (i + 1)
split-more before after marked groups base i l m one_group s =
    let state = get_or marked i 0 in
    let class = base + get_or groups i 0 in
    record {
      moved = λ k h.
          elim (cases_eq (get_or marked k 0) state) [
            | inl e ↦
                ap (λ n. get_or (set after state class) n 0) e ∙ get_or-set_same after state class 0 m ∙ ap (λ n. base + n) (sym (one_group k i (omega (arith, h, l)) l e))
            | inr n ↦
                elim (cases_lt k i) [
                  | inl lt ↦ get_or-set_other after state (get_or marked k 0) class 0 n ∙ s.moved k lt
                  | inr ge ↦ absurd (n (ap (λ t. get_or marked t 0) (let same : k ≡ i = omega (arith, h, ge) in same)))
                ]
          ];
      kept = λ other f. get_or-set_other after state other class 0 (λ e. f i (omega arith) (sym e)) ∙ s.kept other (λ k h. f k (omega (arith, h)));
    }

pub split-all : (before after marked groups : List ℕ) (base n : ℕ) → n ≡ length marked → IsSplitBelow before after marked groups base n → IsSplit before after marked groups base
split-all before after marked groups base n e s = record {
  moved = λ k h. s.moved k (omega (arith, h, e));
  kept = λ state f. s.kept state (λ k h at. f (subst (Contains marked) at (Contains-get_or marked k 0 (omega (arith, h, e)))));
}

-- ---- what waits
-- what waits for a group: its class where the group is the largest part, and else the group
abbrev pub waiting_for : List Kind → ℕ → List ℕ → ℕ → ℕ
waiting_for kinds base largest k = if nat_eq (get_or largest (kind_at kinds k).class 0) (base + k) then (kind_at kinds k).class else base + k

pub record Spares (kinds : List Kind) (base : ℕ) (largest : List ℕ) (bound : ℕ) (waiting : List ℕ) : Type 0 where
  pub lengths : length waiting ≡ bound
  pub waits : (k : ℕ) → k < bound → get_or waiting k 0 ≡ waiting_for kinds base largest k

pub spares-none : (kinds : List Kind) (base : ℕ) (largest : List ℕ) → Spares kinds base largest 0 []
spares-none kinds base largest = record { lengths = refl; waits = λ k h. absurd (omega (arith, h)) }

pub spares-more : (kinds : List Kind) (base : ℕ) (largest : List ℕ) (i waits : ℕ) (waiting : List ℕ) → Spares kinds base largest i waiting → waits ≡ waiting_for kinds base largest i → Spares kinds base largest (i + 1) (waiting ++ waits ∷ [])
spares-more kinds base largest i waits waiting s e = record {
  lengths = omega (arith, s.lengths, length_push waiting waits);
  waits = λ k h.
      elim (cases_lt k i) [
        | inl lt ↦ get_or_append_left waiting (waits ∷ []) 0 k (omega (arith, lt, s.lengths)) ∙ s.waits k lt
        | inr ge ↦
            let same : i ≡ k = omega (arith, h, ge) in
            subst (λ n. get_or (waiting ++ waits ∷ []) n 0 ≡ waiting_for kinds base largest n) same (get_or_push waiting waits 0 i s.lengths ∙ e)
      ];
}

module _ (kinds : List Kind) (base : ℕ) (largest waiting : List ℕ) (s : Spares kinds base largest (length kinds) waiting) where
  group-waits : (k : ℕ) → k < length kinds → ((get_or largest (kind_at kinds k).class 0 ≡ base + k) × Contains waiting (kind_at kinds k).class) ⊎ Contains waiting (base + k)
  group-waits k l =
      let class = (kind_at kinds k).class in
      let at : Contains waiting (waiting_for kinds base largest k) = subst (Contains waiting) (s.waits k l) (Contains-get_or waiting k 0 (omega (arith, l, s.lengths))) in
      elim (cases_eq (get_or largest class 0) (base + k)) [
        | inl e ↦ inl (e, subst (Contains waiting) (ap (λ b. if b then class else base + k) (eq-eqb (get_or largest class 0) (base + k) e)) at)
        | inr n ↦ inr (subst (Contains waiting) (ap (λ b. if b then class else base + k) (ne_eqb (get_or largest class 0) (base + k) n)) at)
      ]

  pub all-but-one : AllButOneWait kinds base waiting
  all-but-one class one other p q =
      elim p [
        | inl e ↦
            elim q [
              | inl f ↦ inl (e ∙ sym f)
              | inr g ↦
                  elim (group-waits g.0 g.1) [
                    | inl w ↦ inr (inl (subst (Contains waiting) (g.3 ∙ sym e) w.1))
                    | inr w ↦ inr (inr (subst (Contains waiting) (sym g.2) w))
                  ]
            ]
        | inr h ↦
            elim (group-waits h.0 h.1) [
              | inl v ↦
                  elim q [
                    | inl f ↦ inr (inr (subst (Contains waiting) (h.3 ∙ sym f) v.1))
                    | inr g ↦
                        elim (group-waits g.0 g.1) [
                          | inl w ↦ inl (h.2 ∙ sym v.0 ∙ ap (λ c. get_or largest c 0) (h.3 ∙ sym g.3) ∙ w.0 ∙ sym g.2)
                          | inr w ↦ inr (inr (subst (Contains waiting) (sym g.2) w))
                        ]
                  ]
              | inr v ↦ inr (inl (subst (Contains waiting) (sym h.2) v))
            ]
      ]

  pub waiting-below : All (λ kind. kind.class < base) kinds → All (λ c. c < base + length kinds) waiting
  waiting-below a k e h =
      let l : k < length kinds = omega (arith, h, s.lengths) in
      let class = (kind_at kinds k).class in
      let small : class < base = a k (record { class = 0; row = 0 }) l in
      subst (λ n. n < base + length kinds) (get_or_default waiting k 0 e h)
      (elim (cases_eq (get_or largest class 0) (base + k)) [
        | inl same ↦ subst (λ n. n < base + length kinds) (sym (s.waits k l ∙ ap (λ b. if b then class else base + k) (eq-eqb (get_or largest class 0) (base + k) same))) (omega (arith, small))
        | inr n ↦ subst (λ n. n < base + length kinds) (sym (s.waits k l ∙ ap (λ b. if b then class else base + k) (ne_eqb (get_or largest class 0) (base + k) n))) (omega (arith, l))
      ])
