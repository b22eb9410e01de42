-- The segments that are kept, one by one from the first to the last.
use Rattle.std.proofs.Common.{◌≡◌, ℕ, zero, suc, ◌+◌, ◌-◌, ◌<◌, ◌≤◌, Some, slice_get, take_all, append_assoc, Bool, true, false, cond, not, ◌&&◌, List, [], ◌∷◌, ◌++◌, take, length, get_or, refl, sym, ap, ◌∙◌, arith}
use Rattle.std.specs.Prelude.{if◌then◌else◌, ◌==◌}
use Rattle.std.specs.Borrow.{Bor}
use Rattle.std.specs.List.{join_with_byte, slice_split, onto_first, flat_map}
use Rattle.std.proofs.lemmas.List.{append-nil, take_more, map-append}
use Rattle.waf_model.specs.Pieces.{cut, begin_with}
use Rattle.waf_model.specs.TransformPaths.{is_here, is_above, begins_above, tail, kept, ends_here}
use Rattle.text_transform.specs.Segments.{ends_below, texts, without_last, with_segment}

-- a segment in front of those that are kept behind it
abbrev front_by : Bool → Bool → List ℕ → List (List ℕ) → List (List ℕ)
front_by here above x k = if here then k else if not above && begins_above k then tail k else x ∷ k

abbrev with_by : Bool → Bool → List (List ℕ) → List ℕ → List (List ℕ)
with_by here above k s = if here then k else if above && ends_below k then without_last k else k ++ s ∷ []

-- one more in front and one more at the end can be taken in either order
front_next : (hx ax hs above : Bool) (x s : List ℕ) (k : List (List ℕ)) → is_above x ≡ ax → is_above s ≡ above
    → front_by hx ax x (with_by hs above k s) ≡ with_by hs above (front_by hx ax x k) s
front_next true ax hs above x s k ex es = refl
front_next false ax true above x s k ex es = refl
front_next false true false false x s k ex es = refl
front_next false false false false x s [] ex es = rw es refl
front_next false false false false x s (y ∷ r) ex es = by_test (is_above y) refl
  where
    by_test : (q : Bool) → is_above y ≡ q → front_by false false x (with_by false false (y ∷ r) s) ≡ with_by false false (front_by false false x (y ∷ r)) s
    by_test true e = simp e
    by_test false e = simp e
front_next false true false true x s [] ex es = rw ex refl
front_next false true false true x s (y ∷ r) ex es = by_test (ends_below (y ∷ r)) refl
  where
    by_test : (q : Bool) → ends_below (y ∷ r) ≡ q → front_by false true x (with_by false true (y ∷ r) s) ≡ with_by false true (front_by false true x (y ∷ r)) s
    by_test true e = simp e
    by_test false e = simp e
front_next false false false true x s [] ex es = simp (es, ex)
front_next false false false true x s (y ∷ []) ex es = by_test (is_above y) refl
  where
    by_test : (q : Bool) → is_above y ≡ q → front_by false false x (with_by false true (y ∷ []) s) ≡ with_by false true (front_by false false x (y ∷ [])) s
    by_test true e = simp e
    by_test false e = simp e
front_next false false false true x s (y ∷ z ∷ r) ex es = by_test (is_above y) (ends_below (z ∷ r)) refl refl
  where
    by_test : (q p : Bool) → is_above y ≡ q → ends_below (z ∷ r) ≡ p
        → front_by false false x (with_by false true (y ∷ z ∷ r) s) ≡ with_by false true (front_by false false x (y ∷ z ∷ r)) s
    by_test true true e f = simp (e, f)
    by_test true false e f = simp (e, f)
    by_test false true e f = simp (e, f)
    by_test false false e f = simp (e, f)

kept_front : (x : List ℕ) (xs : List (List ℕ)) → kept (x ∷ xs) ≡ front_by (is_here x) (is_above x) x (kept xs)
unfolding kept
kept_front x xs = refl

pub kept_none : kept [] ≡ []
unfolding kept
kept_none = refl

one_kept : (here above : Bool) (s : List ℕ) → front_by here above s [] ≡ with_by here above [] s
one_kept true above s = refl
one_kept false true s = refl
one_kept false false s = refl

-- one segment more at the end
pub kept_next : (xs : List (List ℕ)) (s : List ℕ) → kept (xs ++ s ∷ []) ≡ with_segment (kept xs) s
kept_next [] s =
    kept_front s [] ∙ ap (front_by (is_here s) (is_above s) s) kept_none ∙ one_kept (is_here s) (is_above s) s ∙ ap (λ k. with_segment k s) (sym kept_none)
kept_next (x ∷ xs) s =
    kept_front x (xs ++ s ∷ [])
    ∙ ap (front_by (is_here x) (is_above x) x) (kept_next xs s)
    ∙ front_next (is_here x) (is_above x) (is_here s) (is_above s) x s (kept xs) refl refl
    ∙ ap (λ k. with_segment k s) (sym (kept_front x xs))

-- the last of the segments
below_at : (segments : List (Bor (List ℕ))) (n : ℕ) (x : Bor (List ℕ)) → suc n ≡ length segments → slice_get segments n ≡ Some x
    → ends_below (texts segments) ≡ not (is_above x.now)
below_at [] n x e g = absurd (omega arith)
below_at (s ∷ []) zero x e g = let same : s ≡ x = cc in ap (λ (z : Bor (List ℕ)). not (is_above z.now)) same
below_at (s ∷ []) (suc n) x e g = absurd (omega arith)
below_at (s ∷ t ∷ r) zero x e g = absurd (omega arith)
below_at (s ∷ t ∷ r) (suc n) x e g = below_at (t ∷ r) n x (omega arith) g

here_at : (segments : List (Bor (List ℕ))) (n : ℕ) (x : Bor (List ℕ)) → suc n ≡ length segments → slice_get segments n ≡ Some x
    → ends_here (texts segments) ≡ is_here x.now
here_at [] n x e g = absurd (omega arith)
here_at (s ∷ []) zero x e g = let same : s ≡ x = cc in ap (λ (z : Bor (List ℕ)). is_here z.now) same
here_at (s ∷ []) (suc n) x e g = absurd (omega arith)
here_at (s ∷ t ∷ r) zero x e g = absurd (omega arith)
here_at (s ∷ t ∷ r) (suc n) x e g = here_at (t ∷ r) n x (omega arith) g

pub last_below : (segments : List (Bor (List ℕ))) (x : Bor (List ℕ)) → Some x ≡ slice_get segments (length segments - 1)
    → ends_below (texts segments) ≡ not (is_above x.now)
last_below [] x g = absurd (cc)
last_below (s ∷ r) x g = below_at (s ∷ r) (length (s ∷ r) - 1) x (omega arith) (sym g)

pub last_here : (segments : List (Bor (List ℕ))) (x : Bor (List ℕ)) → Some x ≡ slice_get segments (length segments - 1)
    → ends_here (texts segments) ≡ is_here x.now
last_here [] x g = absurd (cc)
last_here (s ∷ r) x g = here_at (s ∷ r) (length (s ∷ r) - 1) x (omega arith) (sym g)

-- the last is taken back
front_texts : (segments : List (Bor (List ℕ))) (n : ℕ) → suc n ≡ length segments → without_last (texts segments) ≡ texts (take n segments)
front_texts [] n e = absurd (omega arith)
front_texts (s ∷ []) zero e = refl
front_texts (s ∷ []) (suc n) e = absurd (omega arith)
front_texts (s ∷ t ∷ r) zero e = absurd (omega arith)
front_texts (s ∷ t ∷ r) (suc n) e = ap (λ l. s.now ∷ l) (front_texts (t ∷ r) n (omega arith))

all_but_last : (segments : List (Bor (List ℕ))) → without_last (texts segments) ≡ texts (take (length segments - 1) segments)
all_but_last [] = refl
all_but_last (s ∷ r) = front_texts (s ∷ r) (length (s ∷ r) - 1) (omega arith)

taken_back : (k : List (List ℕ)) (s : List ℕ) → is_here s ≡ false → is_above s ≡ true → ends_below k ≡ true → with_segment k s ≡ without_last k
taken_back k s here above below = by_tests (is_here s) (is_above s) (ends_below k) here above below
  where
    by_tests : (h a b : Bool) → h ≡ false → a ≡ true → b ≡ true
        → (if h then k else if a && b then without_last k else k ++ s ∷ []) ≡ without_last k
    by_tests false true true h a b = refl
    by_tests true a' b' h a b = absurd (cc)
    by_tests false false b' h a b = absurd (cc)
    by_tests false true false h a b = absurd (cc)

pub popped : (segments rest : List (Bor (List ℕ))) (s : List ℕ) (n : ℕ) → n ≡ length segments → rest ≡ take (n - 1) segments
    → is_here s ≡ false → is_above s ≡ true → ends_below (texts segments) ≡ true → texts rest ≡ with_segment (texts segments) s
popped segments rest s n e front here above below =
    ap texts (front ∙ ap (λ k. take (k - 1) segments) e)
    ∙ sym (taken_back (texts segments) s here above below ∙ all_but_last segments)

-- one of the segments more is kept
pub kept_step : (segments : List (Bor (List ℕ))) (i : ℕ) (d : Bor (List ℕ)) (old new : List (List ℕ)) → i < length segments
    → old ≡ kept (texts (take i segments)) → new ≡ with_segment old (get_or segments i d).now → new ≡ kept (texts (take (i + 1) segments))
kept_step segments i d old new within so step =
    step ∙ ap (λ k. with_segment k (get_or segments i d).now) so
    ∙ sym (ap (λ l. kept (texts l)) (take_more segments i d within)
    ∙ ap kept (map-append (λ (s : Bor (List ℕ)). s.now) (take i segments) (get_or segments i d ∷ []))
    ∙ kept_next (texts (take i segments)) (get_or segments i d).now)

-- the segments are what the standard library cuts
begin_is : (b : ℕ) (pieces : List (List ℕ)) → begin_with b pieces ≡ onto_first b pieces
begin_is b [] = refl
begin_is b (piece ∷ pieces) = refl

pub cut_is : (byte : ℕ) (text : List ℕ) → slice_split (λ b. b == byte) text ≡ cut byte text
cut_is byte [] = refl
cut_is byte (b ∷ bytes) =
    ap (λ l. cond (b == byte) ([] ∷ l) (onto_first b l)) (cut_is byte bytes)
    ∙ ap (cond (b == byte) ([] ∷ cut byte bytes)) (sym (begin_is b (cut byte bytes)))

-- the first segment, and each other behind a slash
joined_is : (x : Bor (List ℕ)) (xs : List (Bor (List ℕ))) → join_with_byte 47 (texts (x ∷ xs)) ≡ x.now ++ flat_map (λ s. 47 ∷ s.now) xs
joined_is x [] = sym (append-nil x.now)
joined_is x (y ∷ ys) = ap (λ l. x.now ++ 47 ∷ l) (joined_is y ys)

pub joined : (old middle new : List ℕ) (first : Bor (List ℕ)) (others segments : List (Bor (List ℕ))) (n : ℕ) → segments ≡ first ∷ others
    → middle ≡ old ++ first.now → new ≡ middle ++ flat_map (λ s. 47 ∷ s.now) (take n others) → length others ≤ n
    → new ≡ old ++ join_with_byte 47 (texts segments)
joined old middle new first others segments n is begun written all =
    written ∙ ap (λ l. middle ++ flat_map (λ s. 47 ∷ s.now) l) (take_all n others all)
    ∙ ap (λ l. l ++ flat_map (λ s. 47 ∷ s.now) others) begun
    ∙ append_assoc old first.now (flat_map (λ s. 47 ∷ s.now) others)
    ∙ ap (λ l. old ++ l) (sym (joined_is first others) ∙ ap (λ l. join_with_byte 47 (texts l)) (sym is))
