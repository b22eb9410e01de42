-- The marking of the sources of classes that wait.
use Rattle.std.proofs.Common.{◌≡◌, ℕ, ◌+◌, ◌<◌, List, [], ◌∷◌, length, get_or, sym, ap, ◌∙◌, subst, inl, inr, arith}
use Rattle.std.specs.List.{Contains}
use Rattle.std.proofs.lemmas.Bool.{cases_lt}
use Rattle.std.proofs.lemmas.List.{get_or_default}
use Rattle.std.proofs.lemmas.List.Elements.{Contains-append_left, Contains-get_or, Contains-push_cases}
use Rattle.byte_automata.specs.Numbers.{Numbers}
use Rattle.byte_automata.specs.Splitting.{Adds, IsSourceOf, IsSourceOfWaiting, list_at}

-- one of the first places has the property with the number
abbrev pub Below : (ℕ → ℕ → Type 0) → ℕ → ℕ → Type 0
Below Has bound thing = (k : ℕ) × (k < bound) × Has k thing

-- the list has the number at the place
abbrev pub IsAt : List ℕ → ℕ → ℕ → Type 0
IsAt list k thing = get_or list k 0 ≡ thing

-- the listed member is of the class and has the number as a source
abbrev pub IsSourceAt : List ℕ → List (List ℕ) → List (List ℕ) → ℕ → ℕ → ℕ → Type 0
IsSourceAt classes members sources class k source = (get_or classes (get_or (list_at members class) k 0) 0 ≡ class) × Contains (list_at sources (get_or (list_at members class) k 0)) source

-- a state of the class that waits at the place has the number as a source
abbrev pub IsWaitingAt : List ℕ → List (List ℕ) → List (List ℕ) → List ℕ → ℕ → ℕ → Type 0
IsWaitingAt classes members sources waiting k source = IsSourceOf classes members sources (get_or waiting k 0) source

pub adds-start : (Has : ℕ → ℕ → Type 0) (xs : List ℕ) → Adds (Below Has 0) xs xs
adds-start Has xs = record { kept = λ x h. h; added = λ x h. absurd (omega (arith, h.1)); only = λ x h. inl h }

pub adds-step : (Has : ℕ → ℕ → Type 0) (k : ℕ) (xs ys zs : List ℕ) → Adds (Below Has k) xs ys → Adds (Has k) ys zs → Adds (Below Has (k + 1)) xs zs
adds-step Has k xs ys zs a b = record {
  kept = λ x h. b.kept x (a.kept x h);
  added = λ x h.
      elim (cases_lt h.0 k) [
        | inl lt ↦ b.kept x (a.added x (h.0, lt, h.2))
        | inr ge ↦
            let e : h.0 ≡ k = omega (arith, h.1, ge) in
            b.added x (subst (λ n. Has n x) e h.2)
      ];
  only = λ x h.
      elim (b.only x h) [
        | inl mid ↦
            elim (a.only x mid) [
              | inl old ↦ inl old
              | inr w ↦ inr (w.0, omega (arith, w.1), w.2)
            ]
        | inr new ↦ inr (k, omega arith, new)
      ];
}

-- the place adds nothing
pub adds-skip : (Has : ℕ → ℕ → Type 0) (k : ℕ) (xs ys : List ℕ) → Adds (Below Has k) xs ys → ((x : ℕ) → Has k x → ⊥) → Adds (Below Has (k + 1)) xs ys
adds-skip Has k xs ys a none = adds-step Has k xs ys ys a (record { kept = λ x h. h; added = λ x h. absurd (none x h); only = λ x h. inl h })

pub adds-as : (Has Has' : ℕ → Type 0) (xs ys : List ℕ) → ((x : ℕ) → Has x → Has' x) → ((x : ℕ) → Has' x → Has x) → Adds Has xs ys → Adds Has' xs ys
adds-as Has Has' xs ys f g a = record {
  kept = a.kept;
  added = λ x h. a.added x (g x h);
  only = λ x h.
      elim (a.only x h) [
        | inl old ↦ inl old
        | inr new ↦ inr (f x new)
      ];
}

pub adds-number : (xs ys : List ℕ) (item number : ℕ) → Numbers xs item number ys → Adds (λ x. item ≡ x) xs ys
adds-number xs ys item number n = record {
  kept = λ x h.
      elim n.kept [
        | inl e ↦ subst (λ t. Contains t x) (sym e) h
        | inr e ↦ subst (λ t. Contains t x) (sym e.0) (Contains-append_left xs (item ∷ []) x h)
      ];
  added = λ x e. subst (λ t. Contains ys t) (n.place.1 0 ∙ e) (Contains-get_or ys number 0 n.place.0);
  only = λ x h.
      elim n.kept [
        | inl e ↦ inl (subst (λ t. Contains t x) e h)
        | inr e ↦ Contains-push_cases xs item x (subst (λ t. Contains t x) e.0 h)
      ];
}

-- ---- the three loops
pub all-marked : (states xs ys : List ℕ) (n : ℕ) → n ≡ length states → Adds (Below (IsAt states) n) xs ys → Adds (Contains states) xs ys
all-marked states xs ys n e a = adds-as (Below (IsAt states) n) (Contains states) xs ys (λ x h. subst (Contains states) h.2 (Contains-get_or states h.0 0 (omega (arith, h.1, e)))) (λ x h. (h.0, omega (arith, h.1, e), get_or_default states h.0 0 x h.1 ∙ h.2)) a

pub class-marked : (classes : List ℕ) (members sources : List (List ℕ)) (class n : ℕ) (xs ys : List ℕ) → n ≡ length (list_at members class) → Adds (Below (IsSourceAt classes members sources class) n) xs ys → Adds (IsSourceOf classes members sources class) xs ys
class-marked classes members sources class n xs ys e a =
    let list = list_at members class in
    adds-as (Below (IsSourceAt classes members sources class) n) (IsSourceOf classes members sources class) xs ys
    (λ x h. (get_or list h.0 0, Contains-get_or list h.0 0 (omega (arith, h.1, e)), h.2.0, h.2.1))
    (λ x h.
    let at : get_or list h.1.0 0 ≡ h.0 = get_or_default list h.1.0 0 h.0 h.1.1 ∙ h.1.2 in
    (h.1.0, omega (arith, h.1.1, e), (ap (λ s. get_or classes s 0) at ∙ h.2, subst (λ s. Contains (list_at sources s) x) (sym at) h.3))) a

-- one member more of the class, and one of another class
pub class-more : (classes : List ℕ) (members sources : List (List ℕ)) (class k state : ℕ) (list xs ys zs : List ℕ) → state ≡ get_or (list_at members class) k 0 → get_or classes state 0 ≡ class → list ≡ list_at sources state
    → Adds (Below (IsSourceAt classes members sources class) k) xs ys → Adds (Contains list) ys zs → Adds (Below (IsSourceAt classes members sources class) (k + 1)) xs zs
class-more classes members sources class k state list xs ys zs at of is a b =
    adds-step (IsSourceAt classes members sources class) k xs ys zs a
    (adds-as (Contains list) (IsSourceAt classes members sources class k) ys zs
    (λ x h. (ap (λ s. get_or classes s 0) (sym at) ∙ of, subst (λ s. Contains (list_at sources s) x) at (subst (λ t. Contains t x) is h)))
    (λ x h. subst (λ t. Contains t x) (sym is) (subst (λ s. Contains (list_at sources s) x) (sym at) h.1)) b)

pub class-skip : (classes : List ℕ) (members sources : List (List ℕ)) (class k state : ℕ) (xs ys : List ℕ) → state ≡ get_or (list_at members class) k 0 → (get_or classes state 0 ≡ class → ⊥)
    → Adds (Below (IsSourceAt classes members sources class) k) xs ys → Adds (Below (IsSourceAt classes members sources class) (k + 1)) xs ys
class-skip classes members sources class k state xs ys at other a =
    adds-skip (IsSourceAt classes members sources class) k xs ys a (λ x h. other (ap (λ s. get_or classes s 0) at ∙ h.0))

pub waiting-marked : (classes : List ℕ) (members sources : List (List ℕ)) (waiting : List ℕ) (n : ℕ) (xs ys : List ℕ) → n ≡ length waiting → Adds (Below (IsWaitingAt classes members sources waiting) n) xs ys → Adds (IsSourceOfWaiting classes members sources waiting) xs ys
waiting-marked classes members sources waiting n xs ys e a =
    adds-as (Below (IsWaitingAt classes members sources waiting) n) (IsSourceOfWaiting classes members sources waiting) xs ys
    (λ x h. (get_or waiting h.0 0, Contains-get_or waiting h.0 0 (omega (arith, h.1, e)), h.2))
    (λ x h.
    let at : get_or waiting h.1.0 0 ≡ h.0 = get_or_default waiting h.1.0 0 h.0 h.1.1 ∙ h.1.2 in
    (h.1.0, omega (arith, h.1.1, e), subst (λ c. IsSourceOf classes members sources c x) (sym at) h.2)) a
