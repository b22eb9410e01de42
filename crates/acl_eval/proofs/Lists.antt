-- Lists that are walked over, the latest first.
use Rattle.std.proofs.Common.{◌≡◌, ℕ, suc, ◌+◌, ◌<◌, List, [], ◌∷◌, ◌++◌, length, get_or, take, drop, drop-cons, add-one, map, reverse, append_assoc, take-append-drop, sym, ap, ◌∙◌}
use Rattle.std.proofs.lemmas.List.{take_more}
use mathlib.Core.List.{map-append, reverse-append, reverse-cons}

-- one more in front of what stood before
pub reversed_cons : {A : Type 0} (x : A) (xs before : List A) → reverse (x ∷ xs) ++ before ≡ reverse xs ++ x ∷ before
reversed_cons {A} x xs before = ap (λ (l : List A). l ++ before) (reverse-cons x xs) ∙ append_assoc (reverse xs) (x ∷ []) before

-- one more behind the others
pub reversed_more : {A : Type 0} (xs : List A) (x : A) → reverse (xs ++ x ∷ []) ≡ x ∷ reverse xs
reversed_more xs x = reverse-append xs (x ∷ [])

pub reversed_parts : {A : Type 0} (xs : List A) (x : A) (ys before : List A) → reverse (xs ++ x ∷ ys) ++ before ≡ reverse ys ++ x ∷ (reverse xs ++ before)
reversed_parts {A} xs x ys before =
    ap (λ (l : List A). l ++ before) (reverse-append xs (x ∷ ys) ∙ ap (λ (l : List A). l ++ reverse xs) (reverse-cons x ys) ∙ append_assoc (reverse ys) (x ∷ []) (reverse xs))
    ∙ append_assoc (reverse ys) (x ∷ reverse xs) before

-- the list in three: what was walked over, the one at the index, and the rest
pub parted : {A : Type 0} (xs : List A) (i : ℕ) (x : A) → i < length xs → x ≡ get_or xs i x → xs ≡ take i xs ++ x ∷ drop (i + 1) xs
parted {A} xs i x below is =
    let rest : drop i xs ≡ x ∷ drop (i + 1) xs = rw add-one (drop-cons xs i x below ∙ ap (λ (y : A). y ∷ drop (suc i) xs) (sym is)) in
    sym (take-append-drop i xs) ∙ ap (λ (l : List A). take i xs ++ l) rest

pub parted_map : {A B : Type 0} (f : A → B) (xs : List A) (i : ℕ) (x : A) → i < length xs → x ≡ get_or xs i x
    → map f xs ≡ map f (take i xs) ++ f x ∷ map f (drop (i + 1) xs)
parted_map f xs i x below is = ap (map f) (parted xs i x below is) ∙ map-append f (take i xs) (x ∷ drop (i + 1) xs)

pub taken_more : {A : Type 0} (xs : List A) (i : ℕ) (x : A) → i < length xs → x ≡ get_or xs i x → take (i + 1) xs ≡ take i xs ++ x ∷ []
taken_more {A} xs i x below is = take_more xs i x below ∙ ap (λ (y : A). take i xs ++ y ∷ []) (sym is)

-- the mapped ones so far, the latest first, with one more
pub mapped_more : {A B : Type 0} (f : A → B) (xs : List A) (i : ℕ) (x : A) → i < length xs → x ≡ get_or xs i x
    → reverse (map f (take (i + 1) xs)) ≡ f x ∷ reverse (map f (take i xs))
mapped_more f xs i x below is =
    ap (λ l. reverse (map f l)) (taken_more xs i x below is) ∙ ap reverse (map-append f (take i xs) (x ∷ [])) ∙ reversed_more (map f (take i xs)) (f x)
