-- Two least automata of one language are equal.
use Rattle.std.proofs.Common.{◌≡◌, ℕ, zero, suc, ◌<◌, ◌≤◌, ◌⊎◌, false, List, [], ◌∷◌, length, sym, ap, ◌∙◌, subst, inl, inr, arith}
use Rattle.std.proofs.lemmas.Bool.{cases_lt}
use Rattle.std.proofs.lemmas.List.{ext_get_or}
use Rattle.byte_automata.specs.declared.state.State.{State}
use Rattle.byte_automata.specs.Automaton.{Automaton, state_at, next, accepts_from}
use Rattle.byte_automata.specs.FirstReach.{IsEarlier}
use Rattle.byte_automata.specs.Least.{SameLanguage, IsLeast}
use Rattle.byte_automata.proofs.Rows.{joined_rows-equal}
use Rattle.byte_automata.proofs.Runs.{next-within}

-- the state of that number has one residual in both
SameAt : Automaton → Automaton → ℕ → Type 0
SameAt a b state = (text : List ℕ) → accepts_from a state text ≡ accepts_from b state text

-- what the states have in common where it is known of all smaller ones
pub cases_order : (k c k' c' : ℕ) → IsEarlier k c k' c' ⊎ (IsEarlier k' c' k c ⊎ ((k ≡ k') × (c ≡ c')))
cases_order k c k' c' =
    elim (cases_lt k k') [
      | inl lt ↦ inl (inl lt)
      | inr ge ↦
          elim (cases_lt k' k) [
            | inl gt ↦ inr (inl (inl gt))
            | inr le ↦
                let e : k ≡ k' = omega (arith, ge, le) in
                elim (cases_lt c c') [
                  | inl lt ↦ inl (inr (e, lt))
                  | inr ge' ↦ elim (cases_lt c' c) [ inl gt ↦ inr (inl (inr (sym e, gt))) | inr le' ↦ inr (inr (e, omega (arith, ge', le'))) ]
                ]
          ]
    ]

agree : (a b : Automaton) → IsLeast a → IsLeast b → SameLanguage a b → (bound state : ℕ) → state < bound → state < length a.states → (state < length b.states) × SameAt a b state
unfolding SameAt
agree a b la lb same zero state h l = absurd (omega (arith, h))
agree a b la lb same (suc bound) zero h l = (
  subst (λ n. n < length b.states) lb.numbered.start lb.numbered.whole.start,
  λ text. ap (λ s. accepts_from a s text) (sym la.numbered.start) ∙ same text ∙ ap (λ s. accepts_from b s text) lb.numbered.start,
)
agree a b la lb same (suc bound) (suc j) h l =
    let state = suc j in
    let fa = la.numbered.reached (suc j) (omega arith) l in
    let before = agree a b la lb same bound fa.from (omega (arith, fa.smaller, h)) (omega (arith, fa.smaller, l)) in
    let there = next b fa.from fa.byte in
    let in' : there < length b.states = next-within b lb.numbered.whole fa.from fa.byte before.0 in
    let same_there : (text : List ℕ) → accepts_from a (suc j) text ≡ accepts_from b there text = λ text. ap (λ s. accepts_from a s text) (sym fa.leads) ∙ before.1 (fa.byte ∷ text) in
    elim (cases_lt there (suc j)) [
      | inl lt ↦
          let smaller = agree a b la lb same bound there (omega (arith, lt, h)) (omega (arith, lt, l)) in
          let e = la.least there (suc j) (omega (arith, lt, l)) l (λ text. smaller.1 text ∙ sym (same_there text)) in
          absurd (omega (arith, lt, e))
      | inr ge ↦
          elim (cases_lt (suc j) there) [
            | inr le ↦
                let e : there ≡ suc j = omega (arith, ge, le) in
                (omega (arith, in', ge), λ text. same_there text ∙ ap (λ s. accepts_from b s text) e)
            | inl gt ↦
                let lb' : suc j < length b.states = omega (arith, gt, in') in
                let fb = lb.numbered.reached (suc j) (omega arith) lb' in
                let before' = agree a b la lb same bound fb.from (omega (arith, fb.smaller, h)) (omega (arith, fb.smaller, l)) in
                let here = next a fb.from fb.byte in
                elim (cases_order fb.from fb.byte fa.from fa.byte) [
                  | inl early ↦
                      let lt = fa.first fb.from fb.byte early in
                      let smaller = agree a b la lb same bound here (omega (arith, lt, h)) (omega (arith, lt, l)) in
                      let e = lb.least here (suc j) smaller.0 lb' (λ text. sym (smaller.1 text) ∙ before'.1 (fb.byte ∷ text) ∙ ap (λ s. accepts_from b s text) fb.leads) in
                      absurd (omega (arith, lt, e))
                  | inr late ↦
                      elim late [
                        | inl early ↦ absurd (omega (arith, fb.first fa.from fa.byte early, gt))
                        | inr one ↦ absurd (omega (arith, gt, (λ i. next b (sym one.0 i) (sym one.1 i)) ∙ fb.leads))
                      ]
                ]
          ]
    ]

no_longer : (a b : Automaton) → IsLeast a → IsLeast b → SameLanguage a b → length a.states ≤ length b.states
no_longer a b la lb same =
    elim (cases_lt (length b.states) (length a.states)) [
      | inl lt ↦ absurd (omega (arith, (agree a b la lb same (suc (length b.states)) (length b.states) (omega arith) lt).0))
      | inr ge ↦ ge
    ]

state_same : (p q : State) → p.accepting ≡ q.accepting → p.edges ≡ q.edges → p ≡ q
state_same p q e f = λ i. record { accepting = e i; edges = f i }

-- two least automata of one language are equal
pub least-equal : (a b : Automaton) → IsLeast a → IsLeast b → SameLanguage a b → a ≡ b
unfolding SameAt
least-equal a b la lb same = λ i. record { start = starts i; states = states i }
  where
    starts : a.start ≡ b.start
    starts = la.numbered.start ∙ sym lb.numbered.start

    lengths : length a.states ≡ length b.states
    lengths = omega (arith, no_longer a b la lb same, no_longer b a lb la (λ text. sym (same text)))

    both : (state : ℕ) → state < length a.states → SameAt a b state
    both state l = (agree a b la lb same (suc state) state (omega arith) l).1

    nexts : (state byte : ℕ) → state < length a.states → next a state byte ≡ next b state byte
    nexts state byte l =
        let in' = next-within a la.numbered.whole state byte l in
        lb.least (next a state byte) (next b state byte) (omega (arith, in', lengths)) (next-within b lb.numbered.whole state byte (omega (arith, l, lengths)))
        (λ text. sym (both (next a state byte) in' text) ∙ both state l (byte ∷ text))

    states : a.states ≡ b.states
    states =
        ext_get_or (record { accepting = false; edges = [] }) a.states b.states lengths
        (λ k l.
        let l' : k < length b.states = omega (arith, l, lengths) in
        state_same (state_at a k) (state_at b k) (both k l [])
        (joined_rows-equal 0 0 0 (state_at a k).edges (state_at b k).edges (omega arith) (la.numbered.whole.rows k _ l) (lb.numbered.whole.rows k _ l') (la.numbered.joined k _ l) (lb.numbered.joined k _ l') (λ byte p q. nexts k byte l)))
