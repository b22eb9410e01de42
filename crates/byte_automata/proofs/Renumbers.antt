-- The renumbered automaton: its runs, its numbering and its residuals.
use Rattle.std.proofs.Common.{◌≡◌, ℕ, zero, suc, ◌+◌, ◌<◌, ◌^◌, Bool, false, List, [], ◌∷◌, ◌++◌, length, get_or, set, refl, sym, ap, ◌∙◌, subst, inl, inr, arith}
use Rattle.std.specs.List.{All}
use Rattle.std.proofs.lemmas.Bool.{cases_lt, cases_eq}
use Rattle.std.proofs.lemmas.List.{length_push, get_or_append_left, get_or_push, get_or_default, length-set, get_or-set_same, get_or-set_other}
use Rattle.std.proofs.lemmas.List.Elements.{All-set}
use Rattle.byte_automata.specs.declared.edge.Edge.{Edge}
use Rattle.byte_automata.specs.declared.arrival.Arrival.{Arrival}
use Rattle.byte_automata.specs.declared.state.State.{State}
use Rattle.byte_automata.specs.Automaton.{Automaton, IsWhole, state_at, accepting, next, ends, accepts_from}
use Rattle.byte_automata.specs.FirstReach.{StandsBelow, arrival_at, IsExplored}
use Rattle.byte_automata.specs.Least.{IsReachable, IsFirstReached, IsNumbered, Renumbers}
use Rattle.byte_automata.specs.Members.{AreDifferent}
use Rattle.byte_automata.specs.Places.{IsPlaced}
use Rattle.byte_automata.specs.Row.{target, CoversBytes, IsJoined, renamed, joined}
use Rattle.byte_automata.proofs.Different.{same_place}
use Rattle.byte_automata.proofs.Rows.{target-renamed, covers-renamed, covers-joined, targets-renamed, targets-joined, IsJoined-joined}
use Rattle.byte_automata.proofs.Runs.{ends-append}

-- one number more has its place
pub placed-more : (order table : List ℕ) (i count : ℕ) → AreDifferent order → All (λ s. s < count) order → i < length order → IsPlaced order i count table → IsPlaced order (i + 1) count (set table (get_or order i 0) i)
placed-more order table i count different below l p = record {
  entries = length-set table (get_or order i 0) i ∙ p.entries;
  within = All-set (λ n. n < length order) table (get_or order i 0) i l p.within;
  place = λ k h.
      elim (cases_eq k i) [
        | inl same ↦
            ap (λ n. get_or (set table (get_or order i 0) i) (get_or order n 0) 0) same ∙ get_or-set_same table (get_or order i 0) i 0 (omega (arith, below i 0 l, p.entries)) ∙ sym same
        | inr other ↦
            get_or-set_other table (get_or order i 0) (get_or order k 0) i 0 (λ e. other (same_place order k i 0 different (omega (arith, h, l)) l e)) ∙ p.place k (omega (arith, h, other))
      ];
}

-- the first states are those of the order
pub record IsRenumbering (d : Automaton) (order table : List ℕ) (known : ℕ) (states : List State) : Type 0 where
  pub count : length states ≡ known
  pub accepts : (k : ℕ) (e : State) → k < known → (get_or states k e).accepting ≡ accepting d (get_or order k 0)
  pub edges : (k : ℕ) (e : State) → k < known → (get_or states k e).edges ≡ joined (renamed (λ s. get_or table s 0) (state_at d (get_or order k 0)).edges)

pub renumbering-none : (d : Automaton) (order table : List ℕ) → IsRenumbering d order table 0 []
renumbering-none d order table = record { count = refl; accepts = λ k e l. absurd (omega (arith, l)); edges = λ k e l. absurd (omega (arith, l)) }

pub renumbering-more : (d : Automaton) (order table : List ℕ) (known : ℕ) (states : List State) (accepting' : Bool) (edges : List Edge) → IsRenumbering d order table known states
    → accepting' ≡ accepting d (get_or order known 0) → edges ≡ joined (renamed (λ s. get_or table s 0) (state_at d (get_or order known 0)).edges)
    → IsRenumbering d order table (known + 1) (states ++ (record { accepting = accepting'; edges = edges }) ∷ [])
renumbering-more d order table known states accepting' edges r a b = record {
  count = omega (arith, r.count, length_push states (record { accepting = accepting'; edges = edges }));
  accepts = λ k e l.
      elim (cases_lt k known) [
        | inl lt ↦ ap (λ s. s.accepting) (get_or_append_left states ((record { accepting = accepting'; edges = edges }) ∷ []) e k (omega (arith, lt, r.count))) ∙ r.accepts k e lt
        | inr ge ↦
            let at : k ≡ known = omega (arith, l, ge) in
            ap (λ s. s.accepting) (get_or_push states (record { accepting = accepting'; edges = edges }) e k (omega (arith, at, r.count))) ∙ a ∙ ap (λ n. accepting d (get_or order n 0)) (sym at)
      ];
  edges = λ k e l.
      elim (cases_lt k known) [
        | inl lt ↦ ap (λ s. s.edges) (get_or_append_left states ((record { accepting = accepting'; edges = edges }) ∷ []) e k (omega (arith, lt, r.count))) ∙ r.edges k e lt
        | inr ge ↦
            let at : k ≡ known = omega (arith, l, ge) in
            ap (λ s. s.edges) (get_or_push states (record { accepting = accepting'; edges = edges }) e k (omega (arith, at, r.count))) ∙ b ∙ ap (λ n. joined (renamed (λ s. get_or table s 0) (state_at d (get_or order n 0)).edges)) (sym at)
      ];
}

module _ (d : Automaton) (w : IsWhole d) (order table : List ℕ) (arrivals : List Arrival) (states : List State) (few : length order < 2 ^ 32)
    (x : IsExplored d order arrivals (length order) 0) (p : IsPlaced order (length order) (length d.states) table) (r : IsRenumbering d order table (length order) states) where
  -- what a byte leads to stands in the order
  stands : (k c : ℕ) → k < length order → StandsBelow order (length order) (next d (get_or order k 0) c)
  stands k c l = x.closed k c (inl l)

  -- a byte leads to the place of the state that it leads to
  leads : (k c i : ℕ) → k < length order → i < length order → get_or order i 0 ≡ next d (get_or order k 0) c → next (record { start = 0; states = states }) k c ≡ i
  leads k c i l h e =
      ap (λ t. target t c) (r.edges k (record { accepting = false; edges = [] }) l)
      ∙ target-renamed (λ s. get_or table s 0) (state_at d (get_or order k 0)).edges c (w.rows (get_or order k 0) _ (x.within k 0 l))
      ∙ ap (λ s. get_or table s 0) (sym e) ∙ p.place i h

  leads-within : (k c : ℕ) → k < length order → (next (record { start = 0; states = states }) k c < length order) × (get_or order (next (record { start = 0; states = states }) k c) 0 ≡ next d (get_or order k 0) c)
  leads-within k c l =
      let s = stands k c l in
      let e = leads k c s.0 l s.1 s.2 in
      (subst (λ n. n < length order) (sym e) s.1, ap (λ n. get_or order n 0) e ∙ s.2)

  run : (k : ℕ) (text : List ℕ) → k < length order → (ends (record { start = 0; states = states }) k text < length order) × (get_or order (ends (record { start = 0; states = states }) k text) 0 ≡ ends d (get_or order k 0) text)
  run k [] l = (l, refl)
  run k (c ∷ text) l =
      let s = leads-within k c l in
      let rest = run (next (record { start = 0; states = states }) k c) text s.0 in
      (rest.0, rest.1 ∙ ap (λ n. ends d n text) s.1)

  residual : (k : ℕ) (text : List ℕ) → k < length order → accepts_from (record { start = 0; states = states }) k text ≡ accepts_from d (get_or order k 0) text
  residual k text l =
      let s = run k text l in
      r.accepts (ends (record { start = 0; states = states }) k text) (record { accepting = false; edges = [] }) s.0 ∙ ap (λ n. accepting d n) s.1

  -- each state of the order is reachable
  reachable : (bound k : ℕ) → k < bound → k < length order → IsReachable d (get_or order k 0)
  reachable zero k b l = absurd (omega (arith, b))
  reachable (suc bound) zero b l = ([], sym x.start)
  reachable (suc bound) (suc k) b l =
      let a = arrival_at arrivals k in
      let h = x.arrived k (omega (arith, l, x.lengths)) in
      let before = reachable bound a.from (omega (arith, h.earlier, b)) (omega (arith, h.earlier, l)) in
      (before.0 ++ a.byte ∷ [], ends-append d d.start before.0 (a.byte ∷ []) ∙ ap (λ s. next d s a.byte) before.1 ∙ sym h.leads ∙ ap (λ n. get_or order n 0) (let e : k + 1 ≡ suc k = omega arith in e))

  first_reached : (k : ℕ) → k + 1 < length order → IsFirstReached (record { start = 0; states = states }) (k + 1)
  first_reached k l =
      let a = arrival_at arrivals k in
      let h = x.arrived k (omega (arith, l, x.lengths)) in
      record {
        from = a.from;
        byte = a.byte;
        smaller = omega (arith, h.earlier);
        leads = leads a.from a.byte (k + 1) (omega (arith, h.earlier, l)) l h.leads;
        first = λ k' c b.
            let s = h.first k' c b in
            let in' : k' < length order = elim b [ inl lt ↦ omega (arith, lt, h.earlier, l) | inr e ↦ omega (arith, e.0, h.earlier, l) ] in
            subst (λ n. n < k + 1) (sym (leads k' c s.0 in' (omega (arith, s.1, l)) s.2)) s.1;
      }

  pub whole : IsWhole (record { start = 0; states = states })
  whole =
      let n : length states ≡ length order = r.count in
      record {
        start = omega (arith, n, x.lengths);
        rows = λ k e l.
            subst CoversBytes (sym (r.edges k e (omega (arith, l, n)))) (covers-joined 0 _ (covers-renamed (λ s. get_or table s 0) 0 _ (w.rows (get_or order k 0) (record { accepting = false; edges = [] }) (x.within k 0 (omega (arith, l, n))))));
        targets = λ k e l.
            subst (All (λ t. t.to < length states)) (sym (r.edges k e (omega (arith, l, n))))
            (targets-joined (length states) _ (targets-renamed (λ s. get_or table s 0) (length d.states) (length states) _ (λ s h. omega (arith, p.within s 0 (omega (arith, h, p.entries)), n)) (w.targets (get_or order k 0) (record { accepting = false; edges = [] }) (x.within k 0 (omega (arith, l, n))))));
        few = omega (arith, few, n);
      }

  pub renumbers : Renumbers d (record { start = 0; states = states })
  renumbers = record {
    order = order;
    lengths = r.count;
    different = x.different;
    reachable = λ k e l. subst (IsReachable d) (get_or_default order k 0 e l) (reachable (suc k) k (omega arith) l);
    start = x.start;
    residual = residual;
  }

  pub numbered : IsNumbered (record { start = 0; states = states })
  numbered = record {
    whole = whole;
    start = refl;
    joined = λ k e l. subst IsJoined (sym (r.edges k e (omega (arith, l, r.count)))) (IsJoined-joined (renamed (λ s. get_or table s 0) (state_at d (get_or order k 0)).edges));
    reached = λ k h l. by k h l;
    reachable = λ k l.
        let s = reachable (suc k) k (omega arith) (omega (arith, l, r.count)) in
        let t = run 0 s.0 (omega (arith, x.lengths)) in
        (s.0, same_place order _ k 0 x.different t.0 (omega (arith, l, r.count)) (t.1 ∙ ap (λ n. ends d n s.0) x.start ∙ s.1));
  }
    where
      by : (k : ℕ) → 0 < k → k < length states → IsFirstReached (record { start = 0; states = states }) k
      by zero h l = absurd (omega (arith, h))
      by (suc k) h l = subst (IsFirstReached (record { start = 0; states = states })) (let e : k + 1 ≡ suc k = omega arith in e) (first_reached k (omega (arith, l, r.count)))
