-- The splitting of classes in rounds.
use Rattle.std.proofs.Common.{◌≡◌, ℕ, zero, suc, ◌+◌, ◌<◌, ◌⊎◌, Bool, true, false, List, [], ◌∷◌, ◌++◌, length, get_or, refl, sym, ap, ◌∙◌, subst, inl, inr, arith, if◌then◌else◌}
use Rattle.std.specs.List.{All, Contains}
use Rattle.std.proofs.lemmas.Bool.{cases_lt, cases_eq}
use Rattle.std.proofs.lemmas.List.{get_or_default, get_or_append_left, get_or_push}
use Rattle.std.proofs.lemmas.List.Elements.{Contains-get_or}
use Rattle.byte_automata.specs.declared.kind.Kind.{Kind}
use Rattle.byte_automata.specs.Automaton.{Automaton, IsWhole, state_at, accepting, next, accepts_from}
use Rattle.byte_automata.specs.Classes.{class_row, AreCoarse}
use Rattle.byte_automata.specs.Least.{SameResidual, AreResidualClasses}
use Rattle.byte_automata.specs.Row.{target, renamed}
use Rattle.byte_automata.specs.Splitting.{AreSources, AreParts, Adds, IsSourceOfWaiting, LeadAlike, AreGroups, IsSplit, IsPart, AllButOneWait, IsSteady}
use Rattle.byte_automata.proofs.Rows.{joined_rows-equal, covers-renamed, covers-joined, IsJoined-joined, target-renamed}
use Rattle.byte_automata.proofs.Runs.{next-within}

-- ---- the start
pub number-below : (b : Bool) → (if b then 1 else 0) < 2
number-below true = omega arith
number-below false = omega arith

pub accept-more : (d : Automaton) (of : List ℕ) (n class : ℕ) → length of ≡ n → class ≡ (if accepting d n then 1 else 0) → ((s : ℕ) → s < n → get_or of s 0 ≡ (if accepting d s then 1 else 0))
    → (s : ℕ) → s < n + 1 → get_or (of ++ class ∷ []) s 0 ≡ (if accepting d s then 1 else 0)
accept-more d of n class l e f s h =
    elim (cases_lt s n) [
      | inl lt ↦ get_or_append_left of (class ∷ []) 0 s (omega (arith, lt, l)) ∙ f s lt
      | inr ge ↦
          let at : n ≡ s = omega (arith, h, ge) in
          subst (λ k. get_or (of ++ class ∷ []) k 0 ≡ (if accepting d k then 1 else 0)) at (get_or_push of class 0 n l ∙ e)
    ]

pub coarse-start : (d : Automaton) (of : List ℕ) → length of ≡ length d.states → ((s : ℕ) → s < length d.states → get_or of s 0 ≡ (if accepting d s then 1 else 0)) → AreCoarse d of 2
coarse-start d of l f = record {
  named = record { lengths = l; below = λ k e h. subst (λ n. n < 2) (get_or_default of k 0 e h) (subst (λ n. n < 2) (sym (f k (omega (arith, h, l)))) (number-below (accepting d k))) };
  one_class = λ one other h k same. f one (omega (arith, h, l)) ∙ ap number (same []) ∙ sym (f other (omega (arith, k, l)));
  accept = λ one other h k e. back (accepting d one) (accepting d other) (sym (f one (omega (arith, h, l))) ∙ e ∙ f other (omega (arith, k, l)));
}
  where
    number : Bool → ℕ
    number b = if b then 1 else 0

    back : (a b : Bool) → number a ≡ number b → a ≡ b
    back true true e = refl
    back true false e = absurd (omega (arith, e))
    back false true e = absurd (omega (arith, e))
    back false false e = refl

-- ---- rows seen through classes
module _ (d : Automaton) (w : IsWhole d) (classes : List ℕ) where
  -- bytes lead states of one residual to states of one class, so their rows are equal
  pub row-same : (one other : ℕ) → one < length d.states → other < length d.states
      → ((byte : ℕ) → get_or classes (next d one byte) 0 ≡ get_or classes (next d other byte) 0) → class_row d classes one ≡ class_row d classes other
  row-same one other l h same =
      let n = λ (s : ℕ). get_or classes s 0 in
      joined_rows-equal 0 0 0 (class_row d classes one) (class_row d classes other) (omega arith)
      (covers-joined 0 _ (covers-renamed n 0 _ (w.rows one _ l))) (covers-joined 0 _ (covers-renamed n 0 _ (w.rows other _ h))) (IsJoined-joined (renamed n (state_at d one).edges)) (IsJoined-joined (renamed n (state_at d other).edges))
      (λ byte p q. target-renamed n (state_at d one).edges byte (w.rows one _ l) ∙ same byte ∙ sym (target-renamed n (state_at d other).edges byte (w.rows other _ h)))

  pub row-leads : (one other byte : ℕ) → one < length d.states → other < length d.states → class_row d classes one ≡ class_row d classes other → get_or classes (next d one byte) 0 ≡ get_or classes (next d other byte) 0
  row-leads one other byte l h e =
      let n = λ (s : ℕ). get_or classes s 0 in
      sym (target-renamed n (state_at d one).edges byte (w.rows one _ l)) ∙ ap (λ t. target t byte) e ∙ target-renamed n (state_at d other).edges byte (w.rows other _ h)

-- a list has the number, or it doesn't
find : (xs : List ℕ) (x : ℕ) → ((k : ℕ) × (k < length xs) × (get_or xs k 0 ≡ x)) ⊎ (Contains xs x → ⊥)
find [] x = inr (λ h. absurd (omega (arith, h.1)))
find (y ∷ ys) x =
    elim (cases_eq y x) [
      | inl e ↦ inl (0, omega arith, e)
      | inr n ↦
          elim (find ys x) [
            | inl w ↦ inl (suc w.0, omega (arith, w.1), w.2)
            | inr none ↦ inr (λ h. not_in n none h.0 h.1 h.2)
          ]
    ]
  where
    not_in : (y ≡ x → ⊥) → (Contains ys x → ⊥) → (k : ℕ) → k < length (y ∷ ys) → get_or (y ∷ ys) k x ≡ x → ⊥
    not_in n none zero l e = n e
    not_in n none (suc k) l e = none (k, omega (arith, l), e)

-- what holds between two rounds
pub record IsSplitting (d : Automaton) (classes : List ℕ) (members : List (List ℕ)) (largest : List ℕ) (count : ℕ) (waiting : List ℕ) : Type 0 where
  pub parts : AreParts (length d.states) count classes members largest
  pub coarse : AreCoarse d classes count
  pub steady : IsSteady d classes waiting
  pub wait : All (λ class. class < count) waiting

module _ (d : Automaton) (w : IsWhole d) (sources : List (List ℕ)) (classes : List ℕ) (members : List (List ℕ)) (largest : List ℕ) (base : ℕ) (waiting marked : List ℕ)
    (src : AreSources d sources) (r : IsSplitting d classes members largest base waiting) (m : Adds (IsSourceOfWaiting classes members sources waiting) [] marked) where
  -- the marked states are those that a byte leads to a class that waits
  leads-marked : (state byte : ℕ) → state < length d.states → Contains waiting (get_or classes (next d state byte) 0) → Contains marked state
  leads-marked state byte l h =
      let to = next d state byte in
      m.added state (get_or classes to 0, h, (to, r.parts.listed to (next-within d w state byte l), refl, src.source state byte l))

  pub marked-leads : (state : ℕ) → Contains marked state → (state < length d.states) × (byte : ℕ) × Contains waiting (get_or classes (next d state byte) 0)
  marked-leads state h =
      elim (m.only state h) [
        | inl none ↦ absurd (omega (arith, none.1))
        | inr s ↦
            let led = src.leads s.2.0 state s.2.3 in (led.0, led.1, subst (Contains waiting) (sym (ap (λ t. get_or classes t 0) led.2 ∙ s.2.2)) s.1)
      ]

  pub marked-within : All (λ state. state < length d.states) marked
  marked-within k e l = (marked-leads (get_or marked k e) (Contains-get_or marked k e l)).0

  -- where none is marked, the classes are those of the residuals
  pub splitting-done : length marked ≡ 0 → AreResidualClasses d classes
  splitting-done none = record { lengths = r.parts.lengths; same = λ one other l h e text. by text one other (omega (arith, l, r.parts.lengths)) (omega (arith, h, r.parts.lengths)) e; one_class = r.coarse.one_class }
    where
      by : (text : List ℕ) (one other : ℕ) → one < length d.states → other < length d.states → get_or classes one 0 ≡ get_or classes other 0 → accepts_from d one text ≡ accepts_from d other text
      by [] one other l h e = r.coarse.accept one other (omega (arith, l, r.parts.lengths)) (omega (arith, h, r.parts.lengths)) e
      by (byte ∷ text) one other l h e =
          by text (next d one byte) (next d other byte) (next-within d w one byte l) (next-within d w other byte h)
          (elim (r.steady one other byte l h e) [
            | inl same ↦ same
            | inr waits ↦
                elim waits [
                  | inl a ↦ let c = leads-marked one byte l a in absurd (omega (arith, none, c.1))
                  | inr b ↦ let c = leads-marked other byte h b in absurd (omega (arith, none, c.1))
                ]
          ])

  module _ (groups : List ℕ) (kinds : List Kind) (after : List ℕ) (members' : List (List ℕ)) (largest' : List ℕ) (count : ℕ) (waiting' : List ℕ)
      (g : AreGroups d classes marked groups kinds) (s : IsSplit classes after marked groups base)
      (p : AreParts (length d.states) count after members' largest') (a : AllButOneWait kinds base waiting') (b : All (λ class. class < count) waiting') where
    -- where a state is now
    is_at : (state : ℕ) → ((k : ℕ) × (k < length marked) × (get_or marked k 0 ≡ state) × (get_or after state 0 ≡ base + get_or groups k 0)) ⊎ ((Contains marked state → ⊥) × (get_or after state 0 ≡ get_or classes state 0))
    is_at state =
        elim (find marked state) [
          | inl h ↦ inl (h.0, h.1, h.2, ap (λ n. get_or after n 0) (sym h.2) ∙ s.moved h.0 h.1)
          | inr n ↦ inr (n, s.kept state n)
        ]

    old : (state : ℕ) → state < length d.states → get_or classes state 0 < base
    old state l = r.parts.below state 0 (omega (arith, l, r.parts.lengths))

    is_part : (state : ℕ) → IsPart kinds base (get_or classes state 0) (get_or after state 0)
    is_part state =
        elim (is_at state) [
          | inl h ↦ inr (get_or groups h.0 0, g.below h.0 0 (omega (arith, h.1, g.lengths)), h.3, g.of_class h.0 h.1 ∙ ap (λ n. get_or classes n 0) h.2)
          | inr n ↦ inl n.1
        ]

    alike : (one other : ℕ) → one < length d.states → other < length d.states → LeadAlike d classes one other → (byte : ℕ) → get_or classes (next d one byte) 0 ≡ get_or classes (next d other byte) 0
    alike one other l h e byte = row-leads d w classes one other byte l h e.1

    -- states that are of one class now were so, and bytes led them to one class
    stays : (one other : ℕ) → one < length d.states → other < length d.states → get_or after one 0 ≡ get_or after other 0
        → (get_or classes one 0 ≡ get_or classes other 0) × ((byte : ℕ) → get_or classes (next d one byte) 0 ≡ get_or classes (next d other byte) 0)
    stays one other l h e =
        elim (is_at one) [
          | inl i ↦
              elim (is_at other) [
                | inl j ↦
                    let same = g.alike i.0 j.0 i.1 j.1 (let n : get_or groups i.0 0 ≡ get_or groups j.0 0 = omega (arith, e, i.3, j.3) in n) in
                    let led : LeadAlike d classes one other = subst (λ n. LeadAlike d classes n other) i.2 (subst (LeadAlike d classes (get_or marked i.0 0)) j.2 same) in
                    (led.0, alike one other l h led)
                | inr j ↦ absurd (omega (arith, e, i.3, j.1, old other h))
              ]
          | inr i ↦
              elim (is_at other) [
                | inl j ↦ absurd (omega (arith, e, i.1, j.3, old one l))
                | inr j ↦
                    let same : get_or classes one 0 ≡ get_or classes other 0 = sym i.1 ∙ e ∙ j.1 in (
                      same,
                      λ byte.
                          elim (r.steady one other byte l h same) [
                            | inl led ↦ led
                            | inr waits ↦
                                elim waits [
                                  | inl x ↦ absurd (i.0 (leads-marked one byte l x))
                                  | inr x ↦ absurd (j.0 (leads-marked other byte h x))
                                ]
                          ],
                    )
              ]
        ]

    -- states that led alike are of one class now
    joins : (one other : ℕ) → one < length d.states → other < length d.states → LeadAlike d classes one other → get_or after one 0 ≡ get_or after other 0
    joins one other l h e =
        elim (is_at one) [
          | inl i ↦
              elim (is_at other) [
                | inl j ↦
                    let led : LeadAlike d classes (get_or marked i.0 0) (get_or marked j.0 0) = subst (λ n. LeadAlike d classes n (get_or marked j.0 0)) (sym i.2) (subst (LeadAlike d classes one) (sym j.2) e) in
                    i.3 ∙ ap (λ n. base + n) (g.one_group i.0 j.0 i.1 j.1 led) ∙ sym j.3
                | inr j ↦
                    let c = marked-leads one (subst (Contains marked) i.2 (Contains-get_or marked i.0 0 i.1)) in
                    absurd (j.0 (leads-marked other c.1 h (subst (Contains waiting) (alike one other l h e c.1) c.2)))
              ]
          | inr i ↦
              elim (is_at other) [
                | inl j ↦
                    let c = marked-leads other (subst (Contains marked) j.2 (Contains-get_or marked j.0 0 j.1)) in
                    absurd (i.0 (leads-marked one c.1 l (subst (Contains waiting) (sym (alike one other l h e c.1)) c.2)))
                | inr j ↦ i.1 ∙ e.0 ∙ sym j.1
              ]
        ]

    residual-joins : (one other : ℕ) → one < length d.states → other < length d.states → SameResidual d one other → get_or after one 0 ≡ get_or after other 0
    residual-joins one other l h same =
        let n = r.parts.lengths in
        joins one other l h (
          r.coarse.one_class one other (omega (arith, l, n)) (omega (arith, h, n)) same,
          row-same d w classes one other l h
              (λ byte. r.coarse.one_class (next d one byte) (next d other byte) (omega (arith, next-within d w one byte l, n)) (omega (arith, next-within d w other byte h, n)) (λ text. same (byte ∷ text))),
        )

    pub splitting-more : IsSplitting d after members' largest' count waiting'
    splitting-more = record {
      parts = p;
      coarse = record {
        named = record { lengths = p.lengths; below = p.below };
        one_class = λ one other l h same. residual-joins one other (omega (arith, l, p.lengths)) (omega (arith, h, p.lengths)) same;
        accept = λ one other l h e.
            r.coarse.accept one other (omega (arith, l, p.lengths, r.parts.lengths)) (omega (arith, h, p.lengths, r.parts.lengths)) (stays one other (omega (arith, l, p.lengths)) (omega (arith, h, p.lengths)) e).0;
      };
      steady = λ one other byte l h e.
          let to = next d one byte in
          let to' = next d other byte in
          a (get_or classes to 0) (get_or after to 0) (get_or after to' 0) (is_part to) (subst (λ c. IsPart kinds base c (get_or after to' 0)) (sym ((stays one other l h e).1 byte)) (is_part to'));
      wait = b;
    }

-- with two classes one of which waits, all is steady
pub steady-start : (d : Automaton) (w : IsWhole d) (of : List ℕ) → AreCoarse d of 2 → IsSteady d of (1 ∷ [])
steady-start d w of c one other byte l h e =
    let a = c.named.below (next d one byte) 0 (omega (arith, next-within d w one byte l, c.named.lengths)) in
    let b = c.named.below (next d other byte) 0 (omega (arith, next-within d w other byte h, c.named.lengths)) in
    either (get_or of (next d one byte) 0) (get_or of (next d other byte) 0) a b
  where
    one_waits : (n : ℕ) → n ≡ 1 → Contains (1 ∷ []) n
    one_waits n e = (0, omega arith, sym e)

    either : (x y : ℕ) → x < 2 → y < 2 → (x ≡ y) ⊎ (Contains (1 ∷ []) x ⊎ Contains (1 ∷ []) y)
    either x y a b =
        elim (cases_eq x 1) [
          | inl e ↦ inr (inl (one_waits x e))
          | inr n ↦
              elim (cases_eq y 1) [
                | inl e ↦ inr (inr (one_waits y e))
                | inr k ↦ inl (omega (arith, a, b, n, k))
              ]
        ]

pub splitting-start : (d : Automaton) (w : IsWhole d) (of : List ℕ) (members : List (List ℕ)) (largest : List ℕ) → AreParts (length d.states) 2 of members largest → AreCoarse d of 2 → IsSplitting d of members largest 2 (1 ∷ [])
splitting-start d w of members largest p c = record {
  parts = p;
  coarse = c;
  steady = steady-start d w of c;
  wait = λ k e h. let at : k ≡ 0 = omega (arith, h) in subst (λ n. get_or (1 ∷ []) n e < 2) (sym at) (omega arith);
}
