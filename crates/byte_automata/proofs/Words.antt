-- The texts of the places of an exploration ascend, and no text that leads to a place is less than the place's.
use Rattle.std.proofs.Common.{◌≡◌, ℕ, zero, suc, ◌+◌, ◌<◌, ◌≤◌, ◌⊎◌, true, false, List, [], ◌∷◌, ◌++◌, length, get_or, reverse, refl, sym, ap, ◌∙◌, subst, inl, inr, arith}
use Rattle.std.proofs.lemmas.Bool.{cases_lt, cases_eq, false≢true}
use Rattle.std.proofs.lemmas.List.{length_push, append_assoc, append-nil, reverse-append}
use Rattle.byte_automata.specs.declared.arrival.Arrival.{Arrival}
use Rattle.byte_automata.specs.Automaton.{Automaton, next, ends, accepting, accepts}
use Rattle.byte_automata.specs.FirstReach.{IsEarlier, arrival_at, IsExplored}
use Rattle.byte_automata.specs.Shortest.{IsBelow, IsLess, IsShortest}
use Rattle.byte_automata.specs.Words.{text_within, text_at}
use Rattle.byte_automata.proofs.Canonical.{cases_order}
use Rattle.byte_automata.proofs.Different.{same_place}
use Rattle.byte_automata.proofs.Runs.{ends-append}

below-push : (u v : List ℕ) (b c : ℕ) → length u ≡ length v → IsBelow u v → IsBelow (u ++ b ∷ []) (v ++ c ∷ [])
below-push [] v b c l h = absurd h
below-push (x ∷ u) [] b c l h = absurd h
below-push (x ∷ u) (y ∷ v) b c l h = elim h [ inl lt ↦ inl lt | inr w ↦ inr (w.0, below-push u v b c (omega (arith, l)) w.1) ]

below-last : (u : List ℕ) (b c : ℕ) → b < c → IsBelow (u ++ b ∷ []) (u ++ c ∷ [])
below-last [] b c h = inl h
below-last (x ∷ u) b c h = inr (refl, below-last u b c h)

below-twice : (u v w : List ℕ) → IsBelow u v → IsBelow v w → IsBelow u w
below-twice [] v w h k = absurd h
below-twice (x ∷ u) [] w h k = absurd h
below-twice (x ∷ u) (y ∷ v) [] h k = absurd k
below-twice (x ∷ u) (y ∷ v) (z ∷ w) h k =
    elim h [
      | inl a ↦ elim k [ inl b ↦ inl (omega (arith, a, b)) | inr b ↦ inl (omega (arith, a, b.0)) ]
      | inr a ↦ elim k [ inl b ↦ inl (omega (arith, a.0, b)) | inr b ↦ inr (a.0 ∙ b.0, below-twice u v w a.1 b.1) ]
    ]

less-push : (u v : List ℕ) (b c : ℕ) → IsLess u v → IsLess (u ++ b ∷ []) (v ++ c ∷ [])
less-push u v b c h =
    elim h [
      | inl l ↦ inl (omega (arith, l, length_push u b, length_push v c))
      | inr w ↦ inr (omega (arith, w.0, length_push u b, length_push v c), below-push u v b c w.0 w.1)
    ]

less-last : (u : List ℕ) (b c : ℕ) → b < c → IsLess (u ++ b ∷ []) (u ++ c ∷ [])
less-last u b c h = inr (omega (arith, length_push u b, length_push u c), below-last u b c h)

less-twice : (u v w : List ℕ) → IsLess u v → IsLess v w → IsLess u w
less-twice u v w h k =
    elim h [
      | inl a ↦ elim k [ inl b ↦ inl (omega (arith, a, b)) | inr b ↦ inl (omega (arith, a, b.0)) ]
      | inr a ↦ elim k [ inl b ↦ inl (omega (arith, a.0, b)) | inr b ↦ inr (a.0 ∙ b.0, below-twice u v w a.1 b.1) ]
    ]

-- no greater
NoMore : List ℕ → List ℕ → Type 0
NoMore u v = (v ≡ u) ⊎ IsLess u v

no_more-twice : (u v w : List ℕ) → NoMore u v → NoMore v w → NoMore u w
unfolding NoMore
no_more-twice u v w h k =
    elim h [
      | inl e ↦ elim k [ inl f ↦ inl (f ∙ e) | inr b ↦ inr (subst (λ t. IsLess t w) e b) ]
      | inr a ↦ elim k [ inl f ↦ inr (subst (IsLess u) (sym f) a) | inr b ↦ inr (less-twice u v w a b) ]
    ]

no_more-push : (u v : List ℕ) (c : ℕ) → NoMore u v → NoMore (u ++ c ∷ []) (v ++ c ∷ [])
unfolding NoMore
no_more-push u v c h = elim h [ inl e ↦ inl (ap (λ t. t ++ c ∷ []) e) | inr l ↦ inr (less-push u v c c l) ]

module _ (arrivals : List Arrival) (earlier : (k : ℕ) → k < length arrivals → (arrival_at arrivals k).from ≤ k) where
  -- more bytes than the place has steps change nothing
  free : (f g place : ℕ) → place ≤ f → place ≤ g → place ≤ length arrivals → text_within arrivals f place ≡ text_within arrivals g place
  free zero zero place h k l = refl
  free zero (suc g) zero h k l = refl
  free zero (suc g) (suc place) h k l = absurd (omega (arith, h))
  free (suc f) zero zero h k l = refl
  free (suc f) zero (suc place) h k l = absurd (omega (arith, k))
  free (suc f) (suc g) zero h k l = refl
  free (suc f) (suc g) (suc place) h k l =
      let e = earlier place (omega (arith, l)) in
      ap (λ t. t ++ (arrival_at arrivals place).byte ∷ []) (free f g (arrival_at arrivals place).from (omega (arith, e, h)) (omega (arith, e, k)) (omega (arith, e, l)))

  -- the text of a place is that of where its arrival comes from, and a byte
  pub text_at-suc : (place : ℕ) → place < length arrivals → text_at arrivals (suc place) ≡ text_at arrivals (arrival_at arrivals place).from ++ (arrival_at arrivals place).byte ∷ []
  text_at-suc place l =
      let e = earlier place l in
      ap (λ t. t ++ (arrival_at arrivals place).byte ∷ []) (free place (arrival_at arrivals place).from (arrival_at arrivals place).from e (omega arith) (omega (arith, e, l)))

  -- one byte more of the text, from the back
  pub text-back : (place k : ℕ) (text whole : List ℕ) → place ≡ suc k → k < length arrivals → text_at arrivals place ++ reverse text ≡ whole
      → text_at arrivals (arrival_at arrivals k).from ++ reverse (text ++ (arrival_at arrivals k).byte ∷ []) ≡ whole
  text-back place k text whole e l h =
      ap (λ t. text_at arrivals (arrival_at arrivals k).from ++ t) (reverse-append text ((arrival_at arrivals k).byte ∷ []))
      ∙ sym (append_assoc (text_at arrivals (arrival_at arrivals k).from) ((arrival_at arrivals k).byte ∷ []) (reverse text))
      ∙ ap (λ t. t ++ reverse text) (sym (text_at-suc k l) ∙ ap (text_at arrivals) (sym e)) ∙ h

module _ (d : Automaton) (order : List ℕ) (arrivals : List Arrival) (x : IsExplored d order arrivals (length order) 0) where
  -- the text of a place is that of where its arrival comes from, and a byte
  text-step : (place : ℕ) → place < length arrivals → text_at arrivals (suc place) ≡ text_at arrivals (arrival_at arrivals place).from ++ (arrival_at arrivals place).byte ∷ []
  text-step place l = text_at-suc arrivals (λ k h. (x.arrived k h).earlier) place l

  arrived : (place : ℕ) → place < length arrivals → get_or order (suc place) 0 ≡ next d (get_or order (arrival_at arrivals place).from 0) (arrival_at arrivals place).byte
  arrived place l = ap (λ n. get_or order n 0) (let e : suc place ≡ place + 1 = omega arith in e) ∙ (x.arrived place l).leads

  -- the text of a place leads to its state
  pub text-ends : (bound place : ℕ) → place < bound → place < length order → ends d d.start (text_at arrivals place) ≡ get_or order place 0
  text-ends zero place b l = absurd (omega (arith, b))
  text-ends (suc bound) zero b l = sym x.start
  text-ends (suc bound) (suc place) b l =
      let in' : place < length arrivals = omega (arith, l, x.lengths) in
      let a = arrival_at arrivals place in
      let e = (x.arrived place in').earlier in
      ap (λ t. ends d d.start t) (text-step place in') ∙ ends-append d d.start (text_at arrivals a.from) (a.byte ∷ []) ∙ ap (λ s. next d s a.byte) (text-ends bound a.from (omega (arith, e, b)) (omega (arith, e, l))) ∙ sym (arrived place in')

  -- what an earlier place and byte lead to is no later place's state
  not_earlier : (place k c : ℕ) → place < length arrivals → IsEarlier k c (arrival_at arrivals place).from (arrival_at arrivals place).byte → get_or order (suc place) 0 ≡ next d (get_or order k 0) c → ⊥
  not_earlier place k c l b e =
      let s = (x.arrived place l).first k c b in
      let same : suc place ≡ s.0 = same_place order (suc place) s.0 0 x.different (omega (arith, l, x.lengths)) (omega (arith, s.1, l, x.lengths)) (e ∙ sym s.2) in
      omega (arith, same, s.1)

  -- the texts of the places ascend
  pub ascend : (bound i j : ℕ) → j < bound → i < j → j < length order → IsLess (text_at arrivals i) (text_at arrivals j)
  ascend zero i j b o l = absurd (omega (arith, b))
  ascend (suc bound) i zero b o l = absurd (omega (arith, o))
  ascend (suc bound) zero (suc k) b o l =
      let in' : k < length arrivals = omega (arith, l, x.lengths) in
      inl (omega (arith, ap length (text-step k in'), length_push (text_at arrivals (arrival_at arrivals k).from) (arrival_at arrivals k).byte))
  ascend (suc bound) (suc m) (suc k) b o l =
      let in' : k < length arrivals = omega (arith, l, x.lengths) in
      let im : m < length arrivals = omega (arith, o, in') in
      let a = arrival_at arrivals k in
      let e = arrival_at arrivals m in
      let fa = (x.arrived k in').earlier in
      elim (cases_order e.from e.byte a.from a.byte) [
        | inl early ↦
            subst (λ t. IsLess t (text_at arrivals (suc k))) (sym (text-step m im))
            (subst (IsLess (text_at arrivals e.from ++ e.byte ∷ [])) (sym (text-step k in'))
            (elim early [
              | inl lt ↦ less-push _ _ e.byte a.byte (ascend bound e.from a.from (omega (arith, fa, b)) lt (omega (arith, fa, l)))
              | inr w ↦ subst (λ p. IsLess (text_at arrivals e.from ++ e.byte ∷ []) (text_at arrivals p ++ a.byte ∷ [])) w.0 (less-last (text_at arrivals e.from) e.byte a.byte w.1)
            ]))
        | inr late ↦
            elim late [
              | inl early ↦
                  let s = (x.arrived m im).first a.from a.byte early in
                  let same : suc k ≡ s.0 = same_place order (suc k) s.0 0 x.different l (omega (arith, s.1, o, l)) (arrived k in' ∙ sym s.2) in
                  absurd (omega (arith, same, s.1, o))
              | inr one ↦
                  let same : suc m ≡ suc k = same_place order (suc m) (suc k) 0 x.different (omega (arith, o, l)) l (arrived m im ∙ (λ i. next d (get_or order (one.0 i) 0) (one.1 i)) ∙ sym (arrived k in')) in
                  absurd (omega (arith, same, o))
            ]
      ]

  -- where a byte leads from a place, the text is no more than the place's and the byte
  onward : (place c to : ℕ) → place < length order → to < length order → get_or order to 0 ≡ next d (get_or order place 0) c → NoMore (text_at arrivals to) (text_at arrivals place ++ c ∷ [])
  unfolding NoMore
  onward place c zero l h e = inr (inl (omega (arith, length_push (text_at arrivals place) c)))
  onward place c (suc m) l h e =
      let im : m < length arrivals = omega (arith, h, x.lengths) in
      let a = arrival_at arrivals m in
      elim (cases_order a.from a.byte place c) [
        | inl early ↦
            inr (subst (λ t. IsLess t (text_at arrivals place ++ c ∷ [])) (sym (text-step m im))
            (elim early [
              | inl lt ↦ less-push _ _ a.byte c (ascend (suc place) a.from place (omega arith) lt l)
              | inr w ↦ subst (λ p. IsLess (text_at arrivals a.from ++ a.byte ∷ []) (text_at arrivals p ++ c ∷ [])) w.0 (less-last (text_at arrivals a.from) a.byte c w.1)
            ]))
        | inr late ↦
            elim late [
              | inl early ↦ absurd (not_earlier m place c im early e)
              | inr one ↦ inl (sym (text-step m im ∙ (λ i. text_at arrivals (one.0 i) ++ one.1 i ∷ [])))
            ]
      ]

  -- each text leads to the state of a place whose text is no more
  reached : (v u : List ℕ) (place : ℕ) → place < length order → ends d d.start u ≡ get_or order place 0 → NoMore (text_at arrivals place) u
      → (to : ℕ) × (to < length order) × (ends d d.start (u ++ v) ≡ get_or order to 0) × NoMore (text_at arrivals to) (u ++ v)
  reached [] u place l e h = (place, l, ap (λ t. ends d d.start t) (append-nil u) ∙ e, subst (NoMore (text_at arrivals place)) (sym (append-nil u)) h)
  reached (c ∷ v) u place l e h =
      let s = x.closed place c (inl l) in
      let rest = reached v (u ++ c ∷ []) s.0 s.1 (ends-append d d.start u (c ∷ []) ∙ ap (λ t. next d t c) e ∙ sym s.2)
      (no_more-twice (text_at arrivals s.0) (text_at arrivals place ++ c ∷ []) (u ++ c ∷ []) (onward place c s.0 l s.1 s.2) (no_more-push (text_at arrivals place) u c h)) in
      let same : (u ++ c ∷ []) ++ v ≡ u ++ c ∷ v = append_assoc u (c ∷ []) v in
      (rest.0, rest.1, ap (λ t. ends d d.start t) (sym same) ∙ rest.2, subst (NoMore (text_at arrivals rest.0)) same rest.3)

  some : 0 < length order
  some = omega (arith, x.lengths)

  found : (v : List ℕ) → (to : ℕ) × (to < length order) × (ends d d.start v ≡ get_or order to 0) × NoMore (text_at arrivals to) v
  unfolding NoMore
  found v = reached v [] 0 some (sym x.start) (inl refl)

  -- where no place accepts, no text is accepted
  pub none-accepted : ((k : ℕ) → k < length order → accepting d (get_or order k 0) ≡ false) → (v : List ℕ) → accepts d v ≡ true → ⊥
  none-accepted h v a =
      let f = found v in
      false≢true (sym (h f.0 f.1) ∙ ap (λ s. accepting d s) (sym f.2) ∙ a)

  -- the text of the first place that accepts is the least that is accepted
  pub first-shortest : (place : ℕ) → place < length order → accepting d (get_or order place 0) ≡ true → ((k : ℕ) → k < place → accepting d (get_or order k 0) ≡ false) → IsShortest d (text_at arrivals place)
  unfolding NoMore
  first-shortest place l a h = (
    ap (λ s. accepting d s) (text-ends (suc place) place (omega arith) l) ∙ a,
    λ other t.
        let f = found other in
        elim (cases_lt f.0 place) [
          | inl lt ↦ absurd (false≢true (sym (h f.0 lt) ∙ ap (λ s. accepting d s) (sym f.2) ∙ t))
          | inr ge ↦
              elim (cases_eq f.0 place) [
                | inl e ↦ subst (λ p. NoMore (text_at arrivals p) other) e f.3
                | inr ne ↦ no_more-twice (text_at arrivals place) (text_at arrivals f.0) other (inr (ascend (suc f.0) place f.0 (omega arith) (omega (arith, ge, ne)) f.1)) f.3
              ]
        ],
  )
