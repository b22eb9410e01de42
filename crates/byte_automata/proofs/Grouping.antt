-- Groups of states that lead alike through classes.
use Rattle.std.proofs.Common.{◌≡◌, ℕ, ◌+◌, ◌<◌, ◌≤◌, List, [], ◌∷◌, ◌++◌, length, get_or, take, reverse, refl, sym, ap, ◌∙◌, subst, inl, inr, arith}
use Rattle.std.specs.List.{All}
use Rattle.std.proofs.lemmas.Bool.{cases_lt}
use Rattle.std.proofs.lemmas.List.{length_push, get_or_append_left, get_or_push, take_more, reverse-append, reverse-reverse, length-append, append-nil}
use Rattle.std.proofs.lemmas.List.Elements.{All-push, All-weaker}
use Rattle.byte_automata.specs.declared.edge.Edge.{Edge}
use Rattle.byte_automata.specs.declared.kind.Kind.{Kind}
use Rattle.byte_automata.specs.declared.row_step.RowStep.{RowStep}
use Rattle.byte_automata.specs.Automaton.{Automaton}
use Rattle.byte_automata.specs.Classes.{class_row, Spells}
use Rattle.byte_automata.specs.Grows.{Grows}
use Rattle.byte_automata.specs.Members.{AreDifferent}
use Rattle.byte_automata.specs.Numbers.{HasNumber, Numbers}
use Rattle.byte_automata.specs.Splitting.{AreGroups}
use Rattle.byte_automata.proofs.Different.{same_place}
use Rattle.byte_automata.proofs.Grown.{number-kept}

-- ---- the spelling of rows
pub spells-kept : (base : ℕ) (steps more : List RowStep) (class : ℕ) (edges : List Edge) (id : ℕ) → Spells base steps class edges id → Spells base (steps ++ more) class edges id
spells-kept base steps more class [] id s = s
spells-kept base steps more class (e ∷ es) id s = (s.0, s.1, s.2, number-kept steps more _ s.1 s.3, spells-kept base steps more class es s.0 s.4)

pub spells-more : (base : ℕ) (steps steps' : List RowStep) (class id n i : ℕ) (row : List Edge) (x : Edge) → i < length row → x ≡ get_or row i x → Spells base steps class (reverse (take i row)) id
    → Grows (λ _. Unit {0}) steps steps' → HasNumber steps' (record { from = id; last = x.last; to = x.to }) n → Spells base steps' class (reverse (take (i + 1) row)) (base + n)
spells-more base steps steps' class id n i row x l is s g h =
    let split : reverse (take (i + 1) row) ≡ x ∷ reverse (take i row) = ap reverse (take_more row i x l ∙ ap (λ t. take i row ++ t ∷ []) (sym is)) ∙ reverse-append (take i row) (x ∷ []) in
    subst (λ t. Spells base steps' class t (base + n)) (sym split) (id, n, refl, h, subst (λ t. Spells base t class (reverse (take i row)) id) (sym g.1) (spells-kept base steps g.0 class (reverse (take i row)) id s))

-- one row has one number
spells-one : (base : ℕ) (steps : List RowStep) (class : ℕ) (edges : List Edge) (id id' : ℕ) → AreDifferent steps → Spells base steps class edges id → Spells base steps class edges id' → id ≡ id'
spells-one base steps class [] id id' d s t = s.1 ∙ sym t.1
spells-one base steps class (e ∷ es) id id' d s t =
    let from : s.0 ≡ t.0 = spells-one base steps class es s.0 t.0 d s.4 t.4 in
    let step : RowStep = record { from = s.0; last = e.last; to = e.to } in
    let n : s.1 ≡ t.1 = same_place steps s.1 t.1 step d s.3.0 t.3.0 (s.3.1 step ∙ (λ i. record { from = from i; last = e.last; to = e.to }) ∙ sym (t.3.1 step)) in
    s.2 ∙ ap (λ k. base + k) n ∙ sym t.2

-- one number spells one class and one row
spells-same : (base : ℕ) (steps : List RowStep) (class class' : ℕ) (edges edges' : List Edge) (id : ℕ) → Spells base steps class edges id → Spells base steps class' edges' id → (class ≡ class') × (edges ≡ edges')
spells-same base steps class class' [] [] id s t = (sym s.1 ∙ t.1, refl)
spells-same base steps class class' [] (e ∷ es) id s t = absurd (omega (arith, s.0, s.1, t.2))
spells-same base steps class class' (e ∷ es) [] id s t = absurd (omega (arith, t.0, t.1, s.2))
spells-same base steps class class' (e ∷ es) (f ∷ fs) id s t =
    let n : s.1 ≡ t.1 = omega (arith, s.2, t.2) in
    let d : RowStep = record { from = 0; last = 0; to = 0 } in
    let step : ◌≡◌ {A = RowStep} (record { from = s.0; last = e.last; to = e.to }) (record { from = t.0; last = f.last; to = f.to }) = sym (s.3.1 d) ∙ ap (λ k. get_or steps k d) n ∙ t.3.1 d in
    let rest = spells-same base steps class class' es fs s.0 s.4 (subst (Spells base steps class' fs) (sym (ap (λ r. r.from) step)) t.4) in
    (rest.0, λ i. (record { last = (step i).last; to = (step i).to }) ∷ rest.1 i)

-- ---- the groups
pub record IsGrouping (d : Automaton) (classes marked : List ℕ) (base : ℕ) (steps : List RowStep) (kinds : List Kind) (of : List ℕ) (known : ℕ) : Type 0 where
  pub count : length of ≡ known
  pub within : All (λ g. g < length kinds) of
  pub spelled : (k : ℕ) → k < known → (row : ℕ) × HasNumber kinds (record { class = get_or classes (get_or marked k 0) 0; row = row }) (get_or of k 0) × Spells base steps (get_or classes (get_or marked k 0) 0) (reverse (class_row d classes (get_or marked k 0))) row
  pub classes_below : All (λ kind. kind.class < base) kinds
  pub steps_different : AreDifferent steps
  pub kinds_different : AreDifferent kinds

pub grouping-more : (d : Automaton) (classes marked : List ℕ) (base : ℕ) (steps steps' : List RowStep) (kinds kinds' : List Kind) (of : List ℕ) (known row g : ℕ) → get_or classes (get_or marked known 0) 0 < base → IsGrouping d classes marked base steps kinds of known
    → Spells base steps' (get_or classes (get_or marked known 0) 0) (reverse (class_row d classes (get_or marked known 0))) row → Grows (λ _. Unit {0}) steps steps' → (AreDifferent steps → AreDifferent steps')
    → Numbers kinds (record { class = get_or classes (get_or marked known 0) 0; row = row }) g kinds' → AreDifferent kinds'
    → IsGrouping d classes marked base steps' kinds' (of ++ g ∷ []) (known + 1)
grouping-more d classes marked base steps steps' kinds kinds' of known row g small r s grown different number kinds_different = record {
  count = omega (arith, r.count, length_push of g);
  within = All-push (λ h. h < length kinds') of g (All-weaker (λ h. h < length kinds) (λ h. h < length kinds') (λ h l. omega (arith, l, longer)) of r.within) number.place.0;
  spelled = λ k l.
      elim (cases_lt k known) [
        | inl lt ↦
            let old = r.spelled k lt in (
              old.0,
              subst (λ n. HasNumber kinds' (kind k old.0) n) (sym (get_or_append_left of (g ∷ []) 0 k (omega (arith, lt, r.count)))) (kept (kind k old.0) _ old.1),
              subst (λ t. Spells base t (class k) (reverse (class_row d classes (get_or marked k 0))) old.0) (sym grown.1) (spells-kept base steps grown.0 _ _ old.0 old.2),
            )
        | inr ge ↦
            let at : known ≡ k = omega (arith, l, ge) in (
              row,
              subst (λ n. HasNumber kinds' (kind n row) (get_or (of ++ g ∷ []) n 0)) at (subst (λ n. HasNumber kinds' (kind known row) n) (sym (get_or_push of g 0 known r.count)) number.place),
              subst (λ n. Spells base steps' (class n) (reverse (class_row d classes (get_or marked n 0))) row) at s,
            )
      ];
  classes_below =
      elim number.kept [
        | inl e ↦ subst (All (λ x. x.class < base)) (sym e) r.classes_below
        | inr e ↦ subst (All (λ x. x.class < base)) (sym e.0) (All-push (λ x. x.class < base) kinds (kind known row) r.classes_below small)
      ];
  steps_different = different r.steps_different;
  kinds_different = kinds_different;
}
  where
    class : ℕ → ℕ
    class k = get_or classes (get_or marked k 0) 0

    kind : ℕ → ℕ → Kind
    kind k row = record { class = get_or classes (get_or marked k 0) 0; row = row }

    longer : length kinds ≤ length kinds'
    longer = elim number.kept [ inl e ↦ omega (arith, ap length e) | inr e ↦ omega (arith, ap length e.0, length-append kinds (kind known row ∷ [])) ]

    kept : (x : Kind) (n : ℕ) → HasNumber kinds x n → HasNumber kinds' x n
    kept x n h =
        elim number.kept [
          | inl e ↦ subst (λ t. HasNumber t x n) (sym e) h
          | inr e ↦ subst (λ t. HasNumber t x n) (sym e.0) (number-kept kinds (kind known row ∷ []) x n h)
        ]

pub groups-from : (d : Automaton) (classes marked : List ℕ) (base : ℕ) (steps : List RowStep) (kinds : List Kind) (of : List ℕ) → IsGrouping d classes marked base steps kinds of (length marked) → AreGroups d classes marked of kinds
groups-from d classes marked base steps kinds of r = record {
  lengths = r.count;
  below = r.within;
  of_class = λ k l. let a = r.spelled k l in ap (λ x. x.class) (a.1.1 none);
  alike = λ k j l h e.
      let a = r.spelled k l in
      let b = r.spelled j h in
      let kind : ◌≡◌ {A = Kind} (record { class = class k; row = a.0 }) (record { class = class j; row = b.0 }) = sym (a.1.1 none) ∙ ap (λ n. get_or kinds n none) e ∙ b.1.1 none in
      let row : a.0 ≡ b.0 = ap (λ x. x.row) kind in
      let same = spells-same base steps (class k) (class j) (reverse (rows k)) (reverse (rows j)) a.0 a.2 (subst (Spells base steps (class j) (reverse (rows j))) (sym row) b.2) in
      (same.0, sym (reverse-reverse (rows k)) ∙ ap reverse same.1 ∙ reverse-reverse (rows j));
  one_group = λ k j l h e.
      let a = r.spelled k l in
      let b = r.spelled j h in
      let row : a.0 ≡ b.0 = spells-one base steps (class k) (reverse (rows k)) a.0 b.0 r.steps_different a.2 (subst (λ t. Spells base steps (class k) t b.0) (ap reverse (sym e.1)) (subst (λ t. Spells base steps t (reverse (rows j)) b.0) (sym e.0) b.2)) in
      let kind : ◌≡◌ {A = Kind} (record { class = class k; row = a.0 }) (record { class = class j; row = b.0 }) = λ i. record { class = e.0 i; row = row i } in
      same_place kinds (get_or of k 0) (get_or of j 0) none r.kinds_different a.1.0 b.1.0 (a.1.1 none ∙ kind ∙ sym (b.1.1 none));
}
  where
    none : Kind
    none = record { class = 0; row = 0 }

    class : ℕ → ℕ
    class k = get_or classes (get_or marked k 0) 0

    rows : ℕ → List Edge
    rows k = class_row d classes (get_or marked k 0)

-- ---- numbers as growth
pub numbers-grow : {A : Type 0} (xs ys : List A) (x : A) (n : ℕ) → Numbers xs x n ys → Grows (λ _. Unit {0}) xs ys
numbers-grow xs ys x n h = elim h.kept [ inl e ↦ ([], e ∙ sym (append-nil xs), λ k d l. tt) | inr e ↦ (x ∷ [], e.0, λ k d l. tt) ]
