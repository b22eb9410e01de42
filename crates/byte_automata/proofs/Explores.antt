-- One edge more, and one place more, of an exploration in the order of first reach.
use Rattle.std.proofs.Common.{◌≡◌, ℕ, ◌+◌, ◌<◌, ◌≤◌, ◌⊎◌, List, [], ◌∷◌, ◌++◌, length, get_or, refl, sym, ap, ◌∙◌, subst, inl, inr, arith}
use Rattle.std.specs.List.{All}
use Rattle.std.proofs.lemmas.Bool.{cases_lt}
use Rattle.std.proofs.lemmas.List.{length-append, length_push, get_or_append_left, get_or_push, drop_all, append-nil}
use Rattle.std.proofs.lemmas.List.Elements.{All-push}
use Rattle.byte_automata.specs.declared.edge.Edge.{Edge}
use Rattle.byte_automata.specs.declared.arrival.Arrival.{Arrival}
use Rattle.byte_automata.specs.Automaton.{Automaton, state_at, next}
use Rattle.byte_automata.specs.FirstReach.{IsEarlier, StandsBelow, arrival_at, IsArrival, IsExplored}
use Rattle.byte_automata.specs.Members.{AreDifferent}
use Rattle.byte_automata.specs.Numbers.{HasNumber, Numbers}
use Rattle.byte_automata.specs.Row.{target, CoversBytes, CoversFrom}
use Rattle.byte_automata.proofs.Different.{different-one}
use Rattle.byte_automata.proofs.Rows.{Rest, rest-here, rest-more, target_after-above}

stands-kept : (order more : List ℕ) (bound bound' state : ℕ) → bound ≤ length order → bound ≤ bound' → StandsBelow order bound state → StandsBelow (order ++ more) bound' state
stands-kept order more bound bound' state l m s = (s.0, omega (arith, s.1, m), get_or_append_left order more 0 s.0 (omega (arith, s.1, l)) ∙ s.2)

arrival-kept : (d : Automaton) (order more : List ℕ) (a : Arrival) (place : ℕ) → place + 1 < length order → IsArrival d order a place → IsArrival d (order ++ more) a place
arrival-kept d order more a place l r = record {
  earlier = r.earlier;
  leads = get_or_append_left order more 0 (place + 1) l ∙ r.leads ∙ ap (λ s. next d s a.byte) (sym (get_or_append_left order more 0 a.from (omega (arith, l, r.earlier))));
  first = λ k c e.
      let in' : k < length order = elim e [ inl lt ↦ omega (arith, lt, r.earlier, l) | inr w ↦ omega (arith, w.0, r.earlier, l) ] in
      subst (λ s. StandsBelow (order ++ more) (place + 1) (next d s c)) (sym (get_or_append_left order more 0 k in')) (stands-kept order more (place + 1) (place + 1) _ (omega (arith, l)) (omega arith) (r.first k c e));
}

earlier-place : (k c place byte : ℕ) → IsEarlier k c place byte → k ≤ place
earlier-place k c place byte e = elim e [ inl lt ↦ omega (arith, lt) | inr w ↦ omega (arith, w.0) ]

-- the start alone
pub explored-start : (d : Automaton) (order : List ℕ) → order ≡ d.start ∷ [] → d.start < length d.states → IsExplored d order [] 0 0
explored-start d order e h = subst (λ o. IsExplored d o [] 0 0) (sym e) (record {
  different = different-one d.start;
  start = refl;
  lengths = refl;
  within = λ k x l. subst (λ n. get_or (d.start ∷ []) n x < length d.states) (let z : 0 ≡ k = omega (arith, l) in z) h;
  arrived = λ j l. absurd (omega (arith, l));
  closed = λ k c e. absurd (elim e [ inl lt ↦ omega (arith, lt) | inr w ↦ omega (arith, w.1) ]);
})

module _ (d : Automaton) (order order' : List ℕ) (arrivals : List Arrival) (place i low n : ℕ) (edges : List Edge) (x : Edge)
    (is : edges ≡ (state_at d (get_or order place 0)).edges) (in_order : place < length order) (within : x.to < length d.states)
    (e : IsExplored d order arrivals place low) (r : Rest edges i low) (in_edges : i < length edges) (is_x : x ≡ get_or edges i x)
    (number : HasNumber order' x.to n) (different : AreDifferent order') where
  -- what the bytes of this edge lead to
  here : (c : ℕ) → low ≤ c → c ≤ x.last → next d (get_or order place 0) c ≡ x.to
  here c p q = ap (λ t. target t c) (sym is) ∙ (rest-here edges i low x in_edges is_x r).1 c p q

  pub edge-low : low ≤ x.last
  edge-low = (rest-here edges i low x in_edges is_x r).0

  pub edge-rest : Rest edges (i + 1) (x.last + 1)
  edge-rest = rest-more edges i (i + 1) low x.last x in_edges is_x r edge-low (inl (refl, refl))

  closed' : (more : List ℕ) → order' ≡ order ++ more → (k c : ℕ) → IsEarlier k c place (x.last + 1) → StandsBelow order' (length order') (next d (get_or order' k 0) c)
  closed' more g k c before =
      let in' : k < length order = omega (arith, earlier-place k c place (x.last + 1) before, in_order) in
      let same : get_or order' k 0 ≡ get_or order k 0 = ap (λ t. get_or t k 0) g ∙ get_or_append_left order more 0 k in' in
      let old : IsEarlier k c place low → StandsBelow order' (length order') (next d (get_or order' k 0) c) = λ b.
      subst (λ s. StandsBelow order' (length order') (next d s c)) (sym same)
      (subst (λ o. StandsBelow o (length o) (next d (get_or order k 0) c)) (sym g) (stands-kept order more (length order) (length (order ++ more)) _ (omega arith) (omega (arith, length-append order more)) (e.closed k c b))) in
      elim before [
        | inl lt ↦ old (inl lt)
        | inr w ↦
            elim (cases_lt c low) [
              | inl below ↦ old (inr (w.0, below))
              | inr above ↦
                  (n, number.0, number.1 0 ∙ sym (ap (λ s. next d s c) (same ∙ ap (λ p. get_or order p 0) w.0) ∙ here c above (omega (arith, w.1))))
            ]
      ]

  -- an edge to a state that is there
  pub explored-old : order' ≡ order → IsExplored d order' arrivals place (x.last + 1)
  explored-old g = record {
    different = different;
    start = ap (λ t. get_or t 0 0) g ∙ e.start;
    lengths = ap length g ∙ e.lengths;
    within = subst (All (λ state. state < length d.states)) (sym g) e.within;
    arrived = λ j l. subst (λ t. IsArrival d t (arrival_at arrivals j) j) (sym g) (e.arrived j l);
    closed = closed' [] (g ∙ sym (append-nil order));
  }

  -- an edge to a new state
  pub explored-new : order' ≡ order ++ x.to ∷ [] → IsExplored d order' (arrivals ++ (record { from = place; byte = low }) ∷ []) place (x.last + 1)
  explored-new g = record {
    different = different;
    start = ap (λ t. get_or t 0 0) g ∙ get_or_append_left order (x.to ∷ []) 0 0 (omega (arith, e.lengths)) ∙ e.start;
    lengths = omega (arith, ap length g, length_push order x.to, e.lengths, length_push arrivals (record { from = place; byte = low }));
    within = subst (All (λ state. state < length d.states)) (sym g) (All-push (λ state. state < length d.states) order x.to e.within within);
    arrived = λ j l. subst (λ t. IsArrival d t (arrival_at (arrivals ++ (record { from = place; byte = low }) ∷ []) j) j) (sym g) (by j l);
    closed = closed' (x.to ∷ []) g;
  }
    where
      by : (j : ℕ) → j < length (arrivals ++ (record { from = place; byte = low }) ∷ []) → IsArrival d (order ++ x.to ∷ []) (arrival_at (arrivals ++ (record { from = place; byte = low }) ∷ []) j) j
      by j l =
          elim (cases_lt j (length arrivals)) [
            | inl lt ↦
                subst (λ a. IsArrival d (order ++ x.to ∷ []) a j) (sym (get_or_append_left arrivals ((record { from = place; byte = low }) ∷ []) (record { from = 0; byte = 0 }) j lt))
                (arrival-kept d order (x.to ∷ []) (arrival_at arrivals j) j (omega (arith, lt, e.lengths)) (e.arrived j lt))
            | inr ge ↦
                let at : length arrivals ≡ j = omega (arith, ge, l, length_push arrivals (record { from = place; byte = low })) in
                let last : length order ≡ j + 1 = omega (arith, at, e.lengths) in
                subst (λ a. IsArrival d (order ++ x.to ∷ []) a j) (sym (get_or_push arrivals (record { from = place; byte = low }) (record { from = 0; byte = 0 }) j at))
                (record {
                  earlier = omega (arith, in_order, last);
                  leads =
                      get_or_push order x.to 0 (j + 1) last ∙ sym (here low (omega arith) edge-low) ∙ ap (λ s. next d s low) (sym (get_or_append_left order (x.to ∷ []) 0 place in_order));
                  first = λ k c b.
                      let in' : k < length order = omega (arith, earlier-place k c place low b, in_order) in
                      subst (λ s. StandsBelow (order ++ x.to ∷ []) (j + 1) (next d s c)) (sym (get_or_append_left order (x.to ∷ []) 0 k in'))
                      (stands-kept order (x.to ∷ []) (length order) (j + 1) _ (omega arith) (omega (arith, last)) (e.closed k c b));
                })
          ]

-- all bytes of the place
pub explored-place : (d : Automaton) (order : List ℕ) (arrivals : List Arrival) (place i low : ℕ) (edges : List Edge) → edges ≡ (state_at d (get_or order place 0)).edges → CoversBytes edges
    → IsExplored d order arrivals place low → Rest edges i low → length edges ≤ i → IsExplored d order arrivals (place + 1) 0
explored-place d order arrivals place i low edges is covers e r end = record {
  different = e.different;
  start = e.start;
  lengths = e.lengths;
  within = e.within;
  arrived = e.arrived;
  closed = λ k c b. elim (cases_lt k place) [ inl lt ↦ e.closed k c (inl lt) | inr ge ↦ by k c (elim b [ inl lt ↦ omega (arith, lt, ge) | inr w ↦ absurd (omega (arith, w.1)) ]) ];
}
  where
    all : low ≡ 256
    all = subst (CoversFrom low) (drop_all i edges end) r.covers

    by : (k c : ℕ) → k ≡ place → StandsBelow order (length order) (next d (get_or order k 0) c)
    by k c at =
        elim (cases_lt c 256) [
          | inl lt ↦ e.closed k c (inr (at, omega (arith, lt, all)))
          | inr ge ↦
              let same : next d (get_or order k 0) c ≡ next d (get_or order k 0) 255 =
              ap (λ p. next d (get_or order p 0) c) at ∙ ap (λ t. target t c) (sym is) ∙ target_after-above 0 0 edges c covers (omega (arith, ge)) ∙ ap (λ t. target t 255) is ∙ ap (λ p. next d (get_or order p 0) 255) (sym at) in
              subst (StandsBelow order (length order)) (sym same) (e.closed k 255 (inr (at, omega (arith, all))))
        ]

-- an edge to a state, whose arrival is noted where it is new
pub explored-edge : (d : Automaton) (order order' : List ℕ) (arrivals arrivals' : List Arrival) (place i low n : ℕ) (edges : List Edge) (x : Edge)
    → edges ≡ (state_at d (get_or order place 0)).edges → place < length order → x.to < length d.states → IsExplored d order arrivals place low → Rest edges i low → i < length edges → x ≡ get_or edges i x
    → Numbers order x.to n order' → AreDifferent order' → ((n ≡ length order) × (arrivals' ≡ arrivals ++ (record { from = place; byte = low }) ∷ [])) ⊎ ((n ≡ length order → ⊥) × (arrivals' ≡ arrivals))
    → IsExplored d order' arrivals' place (x.last + 1) × (length order ≤ length order') × (get_or order' place 0 ≡ get_or order place 0)
explored-edge d order order' arrivals arrivals' place i low n edges x is in_order within e r in_edges is_x number different noted =
    elim noted [
      | inl new ↦
          elim number.kept [
            | inl g ↦ absurd (omega (arith, new.0, number.place.0, ap length g))
            | inr g ↦ (
              subst (λ a. IsExplored d order' a place (x.last + 1)) (sym new.1) (explored-new d order order' arrivals place i low n edges x is in_order within e r in_edges is_x number.place different g.0),
              omega (arith, ap length g.0, length_push order x.to),
              ap (λ t. get_or t place 0) g.0 ∙ get_or_append_left order (x.to ∷ []) 0 place in_order,
            )
          ]
      | inr old ↦
          elim number.kept [
            | inl g ↦ (
              subst (λ a. IsExplored d order' a place (x.last + 1)) (sym old.1) (explored-old d order order' arrivals place i low n edges x is in_order within e r in_edges is_x number.place different g),
              omega (arith, ap length g),
              ap (λ t. get_or t place 0) g,
            )
            | inr g ↦ absurd (old.0 g.1)
          ]
    ]
