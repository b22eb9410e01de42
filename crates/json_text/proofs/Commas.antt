-- Writing a list element by element.
use Rattle.std.proofs.Common.{◌≡◌, ℕ, ◌+◌, ◌<◌, List, [], ◌∷◌, ◌++◌, length, map, take, get_or, refl, sym, ap, ◌∙◌, append_assoc, arith}
use Rattle.std.proofs.lemmas.List.{take_more, length-take-le, length-map, map-append, get_or_default}
use Rattle.waf_model.specs.JsonText.{with_commas}
use Rattle.json_text.specs.Separators.{comma_before}

snoc : (xs : List (List ℕ)) (y : List ℕ) → with_commas (xs ++ y ∷ []) ≡ with_commas xs ++ (comma_before (length xs) ++ y)
snoc [] y = refl
snoc (x ∷ []) y = refl
snoc (x ∷ z ∷ xs) y = ap (λ (rest : List ℕ). x ++ 44 ∷ rest) (snoc (z ∷ xs) y) ∙ sym (append_assoc x (44 ∷ with_commas (z ∷ xs)) (44 ∷ y))

-- one element more, behind its comma_before
pub commas_more : {X : Type 0} (f : X → List ℕ) (xs : List X) (i : ℕ) (x : X) → i < length xs → x ≡ get_or xs i x → with_commas (map f (take (i + 1) xs)) ≡ with_commas (map f (take i xs)) ++ (comma_before i ++ f x)
commas_more {X} f xs i x within stands =
    let longer : take (i + 1) xs ≡ take i xs ++ x ∷ [] = take_more xs i x within ∙ ap (λ (y : X). take i xs ++ y ∷ []) (sym stands) in
    let mapped : map f (take (i + 1) xs) ≡ map f (take i xs) ++ f x ∷ [] = ap (λ (ys : List X). map f ys) longer ∙ map-append f (take i xs) (x ∷ []) in
    let count : length (map f (take i xs)) ≡ i = length-map (take i xs) f ∙ length-take-le i xs (omega arith) in
    ap with_commas mapped ∙ snoc (map f (take i xs)) (f x) ∙ ap (λ (n : ℕ). with_commas (map f (take i xs)) ++ (comma_before n ++ f x)) count

-- the same, as a loop writes it
pub commas_step : {X : Type 0} (f : X → List ℕ) (xs : List X) (i : ℕ) (x : X) (start before middle after : List ℕ) → i < length xs → x ≡ get_or xs i x
    → before ≡ start ++ with_commas (map f (take i xs)) → middle ≡ before ++ comma_before i → after ≡ middle ++ f x → after ≡ start ++ with_commas (map f (take (i + 1) xs))
commas_step {X} f xs i x start before middle after within stands is_before is_middle is_after =
    let so_far = with_commas (map f (take i xs)) in
    is_after ∙ ap (λ (t : List ℕ). t ++ f x) (is_middle ∙ ap (λ (t : List ℕ). t ++ comma_before i) is_before ∙ append_assoc start so_far (comma_before i))
    ∙ append_assoc start (so_far ++ comma_before i) (f x) ∙ ap (λ (t : List ℕ). start ++ t) (append_assoc so_far (comma_before i) (f x) ∙ sym (commas_more f xs i x within stands))

-- the same, at a list of plain values
pub commas_step_at : {X : Type 0} (f : X → List ℕ) (xs : List X) (i : ℕ) (d : X) (start before middle after : List ℕ) → i < length xs
    → before ≡ start ++ with_commas (map f (take i xs)) → middle ≡ before ++ comma_before i → after ≡ middle ++ f (get_or xs i d) → after ≡ start ++ with_commas (map f (take (i + 1) xs))
commas_step_at f xs i d start before middle after within is_before is_middle is_after =
    commas_step f xs i (get_or xs i d) start before middle after within (get_or_default xs i d (get_or xs i d) within) is_before is_middle is_after
