-- The lists of the states from which bytes lead to a state.
use Rattle.std.proofs.Common.{◌≡◌, ℕ, zero, suc, ◌+◌, ◌<◌, ◌≤◌, ◌⊎◌, leb, List, [], ◌∷◌, ◌++◌, length, set, refl, sym, ap, ◌∙◌, subst, inl, inr, arith}
use Rattle.std.specs.List.{Contains}
use Rattle.std.proofs.lemmas.Bool.{cases_lt, cases_eq, cond_both}
use Rattle.std.proofs.lemmas.List.{length-set, get_or-set_same, get_or-set_other}
use Rattle.std.proofs.lemmas.List.Elements.{Contains-append_left, Contains-push, Contains-push_cases}
use Rattle.byte_automata.specs.declared.edge.Edge.{Edge}
use Rattle.byte_automata.specs.Automaton.{Automaton, IsWhole, state_at, next}
use Rattle.byte_automata.specs.Row.{target_after, target, CoversFrom, CoversBytes}
use Rattle.byte_automata.specs.Sources.{AddsSource, edge_at}
use Rattle.byte_automata.specs.Splitting.{AreSources, list_at}
use Rattle.byte_automata.proofs.Rows.{target_after-first, target_after-past}

-- ---- lists of lists
pub empty-list : (lists : List (List ℕ)) (list : ℕ) → list_at (lists ++ [] ∷ []) list ≡ list_at lists list
empty-list [] zero = refl
empty-list [] (suc list) = refl
empty-list (x ∷ xs) zero = refl
empty-list (x ∷ xs) (suc list) = empty-list xs list

-- the lists with one number more at the end of one of them
abbrev pub put : List (List ℕ) → ℕ → ℕ → List (List ℕ)
put lists at number = set lists at (list_at lists at ++ number ∷ [])

module _ (lists : List (List ℕ)) (at number : ℕ) (l : at < length lists) where
  same : list_at (put lists at number) at ≡ list_at lists at ++ number ∷ []
  same = get_or-set_same lists at (list_at lists at ++ number ∷ []) [] l

  other : (list : ℕ) → (list ≡ at → ⊥) → list_at (put lists at number) list ≡ list_at lists list
  other list n = get_or-set_other lists at list (list_at lists at ++ number ∷ []) [] n

  pub put-kept : (list x : ℕ) → Contains (list_at lists list) x → Contains (list_at (put lists at number) list) x
  put-kept list x h =
      elim (cases_eq list at) [
        | inl e ↦
            subst (λ n. Contains (list_at (put lists at number) n) x) (sym e) (subst (λ t. Contains t x) (sym same) (Contains-append_left (list_at lists at) (number ∷ []) x (subst (λ n. Contains (list_at lists n) x) e h)))
        | inr n ↦ subst (λ t. Contains t x) (sym (other list n)) h
      ]

  pub put-added : Contains (list_at (put lists at number) at) number
  put-added = subst (λ t. Contains t number) (sym same) (Contains-push (list_at lists at) number)

  pub put-only : (list x : ℕ) → Contains (list_at (put lists at number) list) x → Contains (list_at lists list) x ⊎ ((list ≡ at) × (number ≡ x))
  put-only list x h =
      elim (cases_eq list at) [
        | inl e ↦
            elim (Contains-push_cases (list_at lists at) number x (subst (λ t. Contains t x) same (subst (λ n. Contains (list_at (put lists at number) n) x) e h))) [
              | inl old ↦ inl (subst (λ n. Contains (list_at lists n) x) (sym e) old)
              | inr new ↦ inr (e, new)
            ]
        | inr n ↦ inl (subst (λ t. Contains t x) (other list n) h)
      ]

-- ---- the sources of one state
pub adds_source-none : (edges : List Edge) (state : ℕ) (lists : List (List ℕ)) → AddsSource edges 0 state lists lists
adds_source-none edges state lists = record {
  lengths = refl;
  kept = λ list from h. h;
  added = λ k h. absurd (omega (arith, h));
  only = λ list from h. inl h;
}

pub adds_source-more : (edges : List Edge) (k state to : ℕ) (before mid : List (List ℕ)) → to < length mid → to ≡ (edge_at edges k).to → AddsSource edges k state before mid → AddsSource edges (k + 1) state before (put mid to state)
adds_source-more edges k state to before mid l is a = record {
  lengths = length-set mid to (list_at mid to ++ state ∷ []) ∙ a.lengths;
  kept = λ list from h. put-kept mid to state l list from (a.kept list from h);
  added = λ j h.
      elim (cases_lt j k) [
        | inl lt ↦ put-kept mid to state l (edge_at edges j).to state (a.added j lt)
        | inr ge ↦
            let e : k ≡ j = omega (arith, h, ge) in
            subst (λ n. Contains (list_at (put mid to state) n) state) (is ∙ ap (λ n. (edge_at edges n).to) e) (put-added mid to state l)
      ];
  only = λ list from h.
      elim (put-only mid to state l list from h) [
        | inl old ↦
            elim (a.only list from old) [
              | inl w ↦ inl w
              | inr w ↦ inr (w.0, w.1, omega (arith, w.2), w.3)
            ]
        | inr new ↦ inr (sym new.1, k, omega arith, sym is ∙ sym new.0)
      ];
}

-- ---- edges and bytes
-- a byte leads along one of the edges
target_after-edge : (before : ℕ) (e : Edge) (es : List Edge) (byte : ℕ) → (k : ℕ) × (k < length (e ∷ es)) × ((edge_at (e ∷ es) k).to ≡ target_after before (e ∷ es) byte)
target_after-edge before e [] byte = (0, omega arith, sym (cond_both (leb byte e.last) e.to e.to (λ x. x ≡ e.to) (λ _. refl) (λ _. refl)))
target_after-edge before e (f ∷ fs) byte =
    let rest = target_after-edge e.to f fs byte in
    elim (cases_lt e.last byte) [
      | inl lt ↦ (suc rest.0, omega (arith, rest.1), rest.2 ∙ sym (target_after-past before e (f ∷ fs) byte lt))
      | inr ge ↦ (0, omega arith, sym (target_after-first before e (f ∷ fs) byte ge))
    ]

pub target-edge : (edges : List Edge) (byte : ℕ) → CoversBytes edges → (k : ℕ) × (k < length edges) × ((edge_at edges k).to ≡ target edges byte)
target-edge [] byte c = absurd (omega (arith, c))
target-edge (e ∷ es) byte c = target_after-edge 0 e es byte

-- some byte leads along each edge
pub edge-byte : (before low : ℕ) (edges : List Edge) (k : ℕ) → CoversFrom low edges → k < length edges → (byte : ℕ) × (low ≤ byte) × (target_after before edges byte ≡ (edge_at edges k).to)
edge-byte before low [] k c h = absurd (omega (arith, h))
edge-byte before low (e ∷ es) zero c h = (low, omega arith, target_after-first before e es low c.0)
edge-byte before low (e ∷ es) (suc k) c h =
    let rest = edge-byte e.to (e.last + 1) es k c.1 (omega (arith, h)) in (rest.0, omega (arith, rest.1, c.0), target_after-past before e es rest.0 (omega (arith, rest.1)) ∙ rest.2)

-- ---- the sources of all states
-- the sources among the first `known` states are in the lists
pub record HaveSources (d : Automaton) (known : ℕ) (sources : List (List ℕ)) : Type 0 where
  pub lengths : length sources ≡ length d.states
  pub source : (state byte : ℕ) → state < known → Contains (list_at sources (next d state byte)) state
  pub leads : (state from : ℕ) → Contains (list_at sources state) from → (from < length d.states) × (byte : ℕ) × (next d from byte ≡ state)

pub have-none : (d : Automaton) (sources : List (List ℕ)) → length sources ≡ length d.states → ((list : ℕ) → list_at sources list ≡ []) → HaveSources d 0 sources
have-none d sources l empty = record {
  lengths = l;
  source = λ state byte h. absurd (omega (arith, h));
  leads = λ state from h. let none : Contains [] from = subst (λ t. Contains t from) (empty state) h in absurd (omega (arith, none.1));
}

pub have-more : (d : Automaton) → IsWhole d → (known : ℕ) (before after : List (List ℕ)) → known < length d.states → HaveSources d known before
    → AddsSource (state_at d known).edges (length (state_at d known).edges) known before after → HaveSources d (known + 1) after
have-more d w known before after l h a = record {
  lengths = a.lengths ∙ h.lengths;
  source = λ state byte lt.
      elim (cases_lt state known) [
        | inl below ↦ a.kept (next d state byte) state (h.source state byte below)
        | inr ge ↦
            let e : known ≡ state = omega (arith, lt, ge) in
            let k = target-edge (state_at d known).edges byte (w.rows known _ l) in
            subst (λ n. Contains (list_at after (next d n byte)) n) e (subst (λ t. Contains (list_at after t) known) k.2 (a.added k.0 k.1))
      ];
  leads = λ state from c.
      elim (a.only state from c) [
        | inl old ↦ h.leads state from old
        | inr new ↦
            let b = edge-byte 0 0 (state_at d known).edges new.1 (w.rows known _ l) new.2 in (subst (λ n. n < length d.states) (sym new.0) l, b.0, ap (λ n. next d n b.0) new.0 ∙ b.2 ∙ new.3)
      ];
}

pub have-all : (d : Automaton) (known : ℕ) (sources : List (List ℕ)) → known ≡ length d.states → HaveSources d known sources → AreSources d sources
have-all d known sources e h = record { lengths = h.lengths; source = λ state byte l. h.source state byte (omega (arith, l, e)); leads = h.leads }
