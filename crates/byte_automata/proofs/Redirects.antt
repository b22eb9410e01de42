-- An automaton whose edges lead to one state of each class of residuals.
use Rattle.std.proofs.Common.{◌≡◌, ℕ, ◌+◌, ◌<◌, Bool, false, List, [], ◌∷◌, ◌++◌, length, get_or, refl, sym, ap, ◌∙◌, subst, inl, inr, arith}
use Rattle.std.specs.List.{All}
use Rattle.std.proofs.lemmas.Bool.{cases_lt}
use Rattle.std.proofs.lemmas.List.{length_push, get_or_append_left, get_or_push}
use Rattle.byte_automata.specs.declared.edge.Edge.{Edge}
use Rattle.byte_automata.specs.declared.state.State.{State}
use Rattle.byte_automata.specs.Automaton.{Automaton, IsWhole, state_at, accepting, next, ends, accepts, accepts_from}
use Rattle.byte_automata.specs.Least.{Redirects, AreResidualClasses, AreNames, Renumbers, IsNumbered, IsLeast}
use Rattle.byte_automata.specs.Row.{target, CoversBytes, renamed, joined}
use Rattle.byte_automata.proofs.Different.{same_place}
use Rattle.byte_automata.proofs.Rows.{target-renamed, covers-renamed, covers-joined, targets-renamed, targets-joined}
use Rattle.byte_automata.proofs.Runs.{next-within}

-- the first states have the edges renamed
pub record IsRedirecting (d : Automaton) (names : List ℕ) (known : ℕ) (states : List State) : Type 0 where
  pub count : length states ≡ known
  pub accepts : (k : ℕ) (e : State) → k < known → (get_or states k e).accepting ≡ accepting d k
  pub edges : (k : ℕ) (e : State) → k < known → (get_or states k e).edges ≡ joined (renamed (λ s. get_or names s 0) (state_at d k).edges)

pub redirecting-more : (d : Automaton) (names : List ℕ) (known : ℕ) (states : List State) (accepting' : Bool) (edges : List Edge) → IsRedirecting d names known states
    → accepting' ≡ accepting d known → edges ≡ joined (renamed (λ s. get_or names s 0) (state_at d known).edges)
    → IsRedirecting d names (known + 1) (states ++ (record { accepting = accepting'; edges = edges }) ∷ [])
redirecting-more d names known states accepting' edges r a b = record {
  count = omega (arith, r.count, length_push states (record { accepting = accepting'; edges = edges }));
  accepts = λ k e l.
      elim (cases_lt k known) [
        | inl lt ↦ ap (λ s. s.accepting) (get_or_append_left states ((record { accepting = accepting'; edges = edges }) ∷ []) e k (omega (arith, lt, r.count))) ∙ r.accepts k e lt
        | inr ge ↦
            let at : k ≡ known = omega (arith, l, ge) in
            ap (λ s. s.accepting) (get_or_push states (record { accepting = accepting'; edges = edges }) e k (omega (arith, at, r.count))) ∙ a ∙ ap (λ n. accepting d n) (sym at)
      ];
  edges = λ k e l.
      elim (cases_lt k known) [
        | inl lt ↦ ap (λ s. s.edges) (get_or_append_left states ((record { accepting = accepting'; edges = edges }) ∷ []) e k (omega (arith, lt, r.count))) ∙ r.edges k e lt
        | inr ge ↦
            let at : k ≡ known = omega (arith, l, ge) in
            ap (λ s. s.edges) (get_or_push states (record { accepting = accepting'; edges = edges }) e k (omega (arith, at, r.count))) ∙ b ∙ ap (λ n. joined (renamed (λ s. get_or names s 0) (state_at d n).edges)) (sym at)
      ];
}

module _ (d : Automaton) (w : IsWhole d) (classes names : List ℕ) (states : List State) (c : AreResidualClasses d classes) (n : AreNames classes names) (r : IsRedirecting d names (length d.states) states) where
  name : (s : ℕ) → s < length d.states → get_or names s 0 < length d.states
  name s l = omega (arith, n.within s 0 (omega (arith, l, n.lengths, c.lengths)), c.lengths)

  -- a name has the residual of what it names
  name_same : (s : ℕ) (text : List ℕ) → s < length d.states → accepts_from d (get_or names s 0) text ≡ accepts_from d s text
  name_same s text l = c.same (get_or names s 0) s (omega (arith, name s l, c.lengths)) (omega (arith, l, c.lengths)) (n.of_class s (omega (arith, l, c.lengths))) text

  nexts : (s byte start : ℕ) → s < length d.states → next (record { start = start; states = states }) s byte ≡ get_or names (next d s byte) 0
  nexts s byte start l = ap (λ t. target t byte) (r.edges s (record { accepting = false; edges = [] }) l) ∙ target-renamed (λ s. get_or names s 0) (state_at d s).edges byte (w.rows s _ l)

  -- a run from the name of a state accepts what the run from the state does
  run : (start s : ℕ) (text : List ℕ) → s < length d.states → accepts_from (record { start = start; states = states }) s text ≡ accepts_from d s text
  run start s [] l = r.accepts s (record { accepting = false; edges = [] }) l
  run start s (byte ∷ text) l =
      let e = nexts s byte start l in
      let in' = next-within d w s byte l in
      ap (λ t. accepts_from (record { start = start; states = states }) t text) e ∙ run start (get_or names (next d s byte) 0) text (name _ in') ∙ name_same (next d s byte) text in'

  -- what is reached is a name
  named : (start : ℕ) (s : ℕ) (text : List ℕ) → (t : ℕ) → t < length d.states → s ≡ get_or names t 0 → (u : ℕ) × (u < length d.states) × (ends (record { start = start; states = states }) s text ≡ get_or names u 0)
  named start s [] t l e = (t, l, e)
  named start s (byte ∷ text) t l e =
      let in' : s < length d.states = subst (λ k. k < length d.states) (sym e) (name t l) in
      named start (next (record { start = start; states = states }) s byte) text (next d s byte) (next-within d w s byte in') (nexts s byte start in')

  pub redirecting-whole : IsWhole (record { start = get_or names d.start 0; states = states })
  redirecting-whole = record {
    start = omega (arith, name d.start w.start, r.count);
    rows = λ k e l. subst CoversBytes (sym (r.edges k e (omega (arith, l, r.count)))) (covers-joined 0 _ (covers-renamed (λ s. get_or names s 0) 0 _ (w.rows k (record { accepting = false; edges = [] }) (omega (arith, l, r.count)))));
    targets = λ k e l.
        subst (All (λ t. t.to < length states)) (sym (r.edges k e (omega (arith, l, r.count))))
        (targets-joined (length states) _ (targets-renamed (λ s. get_or names s 0) (length d.states) (length states) _ (λ s h. omega (arith, name s h, r.count)) (w.targets k (record { accepting = false; edges = [] }) (omega (arith, l, r.count)))));
    few = omega (arith, w.few, r.count);
  }

  pub redirects : Redirects d (record { start = get_or names d.start 0; states = states })
  redirects = record {
    language = λ text. sym (run (get_or names d.start 0) (get_or names d.start 0) text (name d.start w.start) ∙ name_same d.start text w.start);
    apart = λ one other ro rt same.
        let start = get_or names d.start 0 in
        let a = named start start ro.0 d.start w.start refl in
        let b = named start start rt.0 d.start w.start refl in
        let one' : one ≡ get_or names a.0 0 = sym ro.1 ∙ a.2 in
        let other' : other ≡ get_or names b.0 0 = sym rt.1 ∙ b.2 in
        let class : get_or classes a.0 0 ≡ get_or classes b.0 0 =
        c.one_class a.0 b.0 (omega (arith, a.1, c.lengths)) (omega (arith, b.1, c.lengths))
        (λ text.
        sym (name_same a.0 text a.1) ∙ ap (λ s. accepts_from d s text) (sym one') ∙ sym (run start one text (subst (λ k. k < length d.states) (sym one') (name a.0 a.1)))
        ∙ same text ∙ run start other text (subst (λ k. k < length d.states) (sym other') (name b.0 b.1)) ∙ ap (λ s. accepts_from d s text) other' ∙ name_same b.0 text b.1) in
        one' ∙ n.one_name a.0 b.0 (omega (arith, a.1, c.lengths)) (omega (arith, b.1, c.lengths)) class ∙ sym other';
  }

-- a redirected automaton, renumbered, is the least one
pub least-from : (d mid new : Automaton) → Redirects d mid → Renumbers mid new → IsNumbered new → IsLeast new
least-from d mid new r m n = record {
  numbered = n;
  least = λ one other l h same.
      let l' : one < length m.order = omega (arith, l, m.lengths) in
      let h' : other < length m.order = omega (arith, h, m.lengths) in
      same_place m.order one other 0 m.different l' h'
      (r.apart _ _ (m.reachable one 0 l') (m.reachable other 0 h') (λ text. sym (m.residual one text l') ∙ same text ∙ m.residual other text h'));
}

pub language-from : (d mid new : Automaton) → Redirects d mid → Renumbers mid new → IsNumbered new → (text : List ℕ) → accepts new text ≡ accepts d text
language-from d mid new r m n text =
    let some : 0 < length m.order = subst (λ k. k < length m.order) n.start (omega (arith, n.whole.start, m.lengths)) in
    ap (λ s. accepts_from new s text) n.start ∙ m.residual 0 text some ∙ ap (λ s. accepts_from mid s text) m.start ∙ sym (r.language text)
