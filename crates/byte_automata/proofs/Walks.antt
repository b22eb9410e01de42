-- The places that an exploration finds, and the states that it makes of them.
use Rattle.std.proofs.Common.{◌≡◌, ℕ, ◌+◌, ◌-◌, ◌^◌, ◌<◌, ◌≤◌, ◌⊎◌, Bool, false, List, [], ◌∷◌, ◌++◌, Ok, Err, Result, length, get_or, refl, sym, ap, ◌∙◌, subst, inl, inr, arith}
use Rattle.std.specs.List.{All}
use Rattle.std.proofs.lemmas.Bool.{cases_lt}
use Rattle.std.proofs.lemmas.List.{length-append, length_push, get_or_append_left, get_or_push, get_or_default}
use Rattle.std.proofs.lemmas.List.Elements.{All-weaker, All-append, All-head, All-tail, All-cons, All-push}
use Rattle.waf_base.specs.Members.{AtLeast, Exactly}
use Rattle.waf_base.specs.declared.meter.Meter.{Meter}
use Rattle.waf_base.specs.declared.refusal.Stop.{Stop}
use Rattle.waf_base.specs.declared.refusal.Stop.TheVariants.{Full, Memory}
use Rattle.byte_automata.specs.declared.edge.Edge.{Edge}
use Rattle.byte_automata.specs.declared.state.State.{State}
use Rattle.byte_automata.specs.Automaton.{IsWhole, next, ends, accepts}
use Rattle.waf_base.specs.Makes.{Makes}
use Rattle.byte_automata.specs.Members.{AreDifferent}
use Rattle.byte_automata.specs.Numbers.{HasNumber, Numbers}
use Rattle.byte_automata.specs.Grows.{Grows, Counts, CountsOn}
use Rattle.byte_automata.specs.Row.{target, joined, CoversBytes}
use Rattle.waf_base.specs.Spending.{KeepsLimit}
use Rattle.byte_automata.specs.Texts.{IsText}
use Rattle.byte_automata.specs.Walk.{led, IsReached, LedAlike}
use Rattle.waf_base.proofs.Counting.{at_least-none}
use Rattle.waf_base.proofs.Made.{makes-told}
use Rattle.byte_automata.proofs.Different.{different-none}
use Rattle.byte_automata.proofs.Grown.{number-kept, grows-twice, grows-weaker, grows-none}
use Rattle.byte_automata.proofs.Residuals.{text-none}
use Rattle.byte_automata.proofs.Rows.{RowUpTo, upto-none, upto-weaker, upto-push, upto-all, target_after-joined, covers-joined, targets-joined}

-- a text in two parts
pub led-append : {P : Type 0} (after : P → ℕ → P) (place : P) (u v : List ℕ) → led after place (u ++ v) ≡ led after (led after place u) v
led-append after place [] v = refl
led-append after place (byte ∷ u) v = led-append after (after place byte) u v

module _ {P : Type 0} (start : P) (after : P → ℕ → P) where
  pub reached-start : IsReached start after start
  reached-start = ([], text-none, refl)

  pub reached-after : (place : P) (byte : ℕ) → byte < 256 → IsReached start after place → IsReached start after (after place byte)
  reached-after place byte b r = (
    r.0 ++ byte ∷ [],
    All-append (λ b. b < 256) r.0 (byte ∷ []) r.1 (All-cons (λ b. b < 256) byte [] b text-none),
    led-append after start r.0 (byte ∷ []) ∙ ap (λ p. after p byte) r.2,
  )

  -- the places that bytes lead to from a reached place are reached
  pub reached-grown : (place : P) (places places' : List P) → IsReached start after place → All (IsReached start after) places
      → Grows (λ q. (byte : ℕ) × (byte < 256) × (q ≡ after place byte)) places places' → All (IsReached start after) places'
  reached-grown place places places' r a g =
      subst (All (IsReached start after)) (sym g.1)
      (All-append (IsReached start after) places g.0 a
      (All-weaker (λ q. (byte : ℕ) × (byte < 256) × (q ≡ after place byte)) (IsReached start after) (λ q h. subst (IsReached start after) (sym h.2) (reached-after place h.0 h.1 r)) g.0 g.2))

  -- a text that leads to the place of a number
  abbrev pub text_to : (places : List P) → All (IsReached start after) places → (i : ℕ) → (i < length places) ⊎ (length places ≤ i) → List ℕ
  text_to places a i (inl lt) = (a i start lt).0
  text_to places a i (inr ge) = []

  text_to-text : (places : List P) (a : All (IsReached start after) places) (i : ℕ) (c : (i < length places) ⊎ (length places ≤ i)) → IsText (text_to places a i c)
  text_to-text places a i (inl lt) = (a i start lt).1
  text_to-text places a i (inr ge) = text-none

  text_to-leads : (places : List P) (a : All (IsReached start after) places) (i : ℕ) (c : (i < length places) ⊎ (length places ≤ i)) → i < length places → led after start (text_to places a i c) ≡ get_or places i start
  text_to-leads places a i (inl lt) l = (a i start lt).2
  text_to-leads places a i (inr ge) l = absurd (omega (arith, ge, l))

  abbrev pub text_at : (places : List P) → All (IsReached start after) places → ℕ → List ℕ
  text_at places a i = text_to places a i (cases_lt i (length places))

  pub text_at-leads : (places : List P) (a : All (IsReached start after) places) (i : ℕ) → i < length places → led after start (text_at places a i) ≡ get_or places i start
  text_at-leads places a i l = text_to-leads places a i (cases_lt i (length places)) l

  -- different reached places are at most as many as things that texts lead to
  pub at_least-reached : (places : List P) (n : ℕ) → AreDifferent places → All (IsReached start after) places → n ≤ length places → AtLeast (LedAlike start after) n IsText
  at_least-reached places n different a enough = record {
    member = text_at places a;
    of_kind = λ i l. text_to-text places a i (cases_lt i (length places));
    different = λ i j lt l same.
        different i j start lt (omega (arith, l, enough))
        (sym (text_at-leads places a i (omega (arith, lt, l, enough))) ∙ same ∙ text_at-leads places a j (omega (arith, l, enough)));
  }

  -- where the call stopped
  abbrev pub StopsSo : Stop → ℕ → ℕ → ℕ → Type 0
  StopsSo Full before made limit = (made ≡ limit) × AtLeast (LedAlike start after) (limit - before + 1) IsText
  StopsSo Memory before made limit = AtLeast (LedAlike start after) (made - before) IsText

  pub stops-so : (stop : Stop) (before places : List P) (made_before made_old made limit : ℕ) → length before + made_before ≡ made_old → AreDifferent places → All (IsReached start after) places
      → CountsOn stop before places made_old made limit → made_before ≤ limit → StopsSo stop made_before made limit
  stops-so Full before places made_before made_old made limit m d a c l = (c.1, at_least-reached places (limit - made_before + 1) d a (omega (arith, c.0, c.1, m, l)))
  stops-so Memory before places made_before made_old made limit m d a c l = at_least-reached places (made - made_before) d a (omega (arith, c, m))

-- the count of a call that stopped doesn't fall
pub stops-kept : {P : Type 0} (Has : P → Type 0) (stop : Stop) (before places : List P) (made_before made limit : ℕ) → Grows Has before places → made_before ≤ limit → CountsOn stop before places made_before made limit → made_before ≤ made
stops-kept Has Full before places made_before made limit g l c = omega (arith, l, c.1)
stops-kept Has Memory before places made_before made limit g l c = omega (arith, c, ap length g.1, length-append before g.0)

-- A row of runs, up to a byte: each byte below it leads to the number of the place that it leads to.
pub record Stepping {P : Type 0} (after : P → ℕ → P) (place : P) (places_before places : List P) (made_before made limit_before limit : ℕ) (row : List Edge) (low : ℕ) : Type 0 where
  pub most : low ≤ 256
  pub upto : RowUpTo (λ byte to. HasNumber places (after place byte) to) row low
  pub targets : All (λ e. e.to < length places) row
  pub grown : Grows (λ q. (byte : ℕ) × (byte < 256) × (q ≡ after place byte)) places_before places
  pub different : AreDifferent places_before → AreDifferent places
  pub counted : Counts places_before places made_before made
  pub limits : limit ≡ limit_before

module _ {P : Type 0} (after : P → ℕ → P) (place : P) where
  pub stepping-none : (places : List P) (made limit : ℕ) → Stepping after place places places made made limit limit [] 0
  stepping-none places made limit = record {
    most = omega arith;
    upto = upto-none (λ byte to. HasNumber places (after place byte) to);
    targets = λ k d l. absurd (omega (arith, l));
    grown = grows-none (λ q. (byte : ℕ) × (byte < 256) × (q ≡ after place byte)) places;
    different = λ h. h;
    counted = refl;
    limits = refl;
  }

  module _ (places_before places places' : List P) (made_before made made' limit_before limit limit' : ℕ) (row : List Edge) (low : ℕ)
      (s : Stepping after place places_before places made_before made limit_before limit row low) (more : low < 256) where
    pub stepping-grown : (to : P) → to ≡ after place low → Grows (λ q. q ≡ to) places places' → Grows (λ q. (byte : ℕ) × (byte < 256) × (q ≡ after place byte)) places_before places'
    stepping-grown to e g =
        grows-twice (λ q. (byte : ℕ) × (byte < 256) × (q ≡ after place byte)) places_before places places' s.grown
        (grows-weaker (λ q. q ≡ to) (λ q. (byte : ℕ) × (byte < 256) × (q ≡ after place byte)) places places' (λ q h. (low, more, h ∙ e)) g)

    pub stepping-more : (to : P) (last number : ℕ) → to ≡ after place low → low ≤ last → last < 256 → ((other : ℕ) → low ≤ other → other ≤ last → after place other ≡ after place low)
        → Numbers places to number places' → Grows (λ q. q ≡ to) places places' → Counts places places' made made' → (AreDifferent places → AreDifferent places') → limit' ≡ limit
        → Stepping after place places_before places' made_before made' limit_before limit' (row ++ (record { last = last; to = number }) ∷ []) (last + 1)
    stepping-more to last number e l m alike n g count different lim = record {
      most = omega (arith, m);
      upto =
          upto-push (λ byte t. HasNumber places' (after place byte) t) row low (record { last = last; to = number }) l (λ byte p q. subst (λ t. HasNumber places' t number) (e ∙ sym (alike byte p q)) n.place)
          (upto-weaker (λ byte t. HasNumber places (after place byte) t) (λ byte t. HasNumber places' (after place byte) t) row low (λ byte t h. subst (λ ps. HasNumber ps (after place byte) t) (sym g.1) (number-kept places g.0 (after place byte) t h)) s.upto);
      targets =
          All-push (λ x. x.to < length places') row (record { last = last; to = number }) (All-weaker (λ x. x.to < length places) (λ x. x.to < length places') (λ x h. omega (arith, h, ap length g.1, length-append places g.0)) row s.targets) n.place.0;
      grown = stepping-grown to e g;
      different = λ h. different (s.different h);
      counted = omega (arith, s.counted, count);
      limits = lim ∙ s.limits;
    }

  module _ (places_before places : List P) (made_before made limit_before limit : ℕ) (row : List Edge) (low : ℕ)
      (s : Stepping after place places_before places made_before made limit_before limit row low) (end : 256 ≤ low) where
    whole : CoversBytes row × ((byte : ℕ) → byte < 256 → HasNumber places (after place byte) (target row byte))
    whole =
        upto-all (λ byte to. HasNumber places (after place byte) to) row
        (subst (RowUpTo (λ byte to. HasNumber places (after place byte) to) row) (let e : low ≡ 256 = omega (arith, end, s.most) in e) s.upto)

    pub stepping-covers : CoversBytes (joined row)
    stepping-covers = covers-joined 0 row whole.0

    pub stepping-targets : All (λ e. e.to < length places) (joined row)
    stepping-targets = targets-joined (length places) row s.targets

    pub stepping-leads : (byte : ℕ) → byte < 256 → HasNumber places (after place byte) (target (joined row) byte)
    stepping-leads byte l = subst (HasNumber places (after place byte)) (sym (target_after-joined 0 0 row byte whole.0)) (whole.1 byte l)

-- the state of a place: it accepts where the place does, and each byte leads to the number of the place that it leads to
pub record IsPlaceState {P : Type 0} (after : P → ℕ → P) (accepting : P → Bool) (places : List P) (place : P) (state : State) : Type 0 where
  pub accepts : state.accepting ≡ accepting place
  pub covers : CoversBytes state.edges
  pub targets : All (λ e. e.to < length places) state.edges
  pub leads : (byte : ℕ) → byte < 256 → HasNumber places (after place byte) (target state.edges byte)

-- what holds between the states: each place is reached, the start is the first, each is counted, and the first states
-- are those of the first places
pub record Walking {P : Type 0} (start : P) (after : P → ℕ → P) (accepting : P → Bool) (made_before made limit_before limit : ℕ) (places : List P) (states : List State) : Type 0 where
  pub reached : All (IsReached start after) places
  pub different : AreDifferent places
  pub counted : length places + made_before ≡ made
  pub limits : limit ≡ limit_before
  pub first : HasNumber places start 0
  pub done : length states ≤ length places
  pub rows : (k : ℕ) (e : State) → k < length states → IsPlaceState after accepting places (get_or places k start) (get_or states k e)

module _ {P : Type 0} (start : P) (after : P → ℕ → P) (accepting : P → Bool) where
  place-state-kept : (places more : List P) (place : P) (state : State) → IsPlaceState after accepting places place state → IsPlaceState after accepting (places ++ more) place state
  place-state-kept places more place state s = record {
    accepts = s.accepts;
    covers = s.covers;
    targets = All-weaker (λ e. e.to < length places) (λ e. e.to < length (places ++ more)) (λ e h. omega (arith, h, length-append places more)) state.edges s.targets;
    leads = λ byte l. number-kept places more _ _ (s.leads byte l);
  }

  -- the first place is reached
  pub first-reached : (to : P) (places : List P) → to ≡ start → Grows (λ q. q ≡ to) [] places → All (IsReached start after) places
  first-reached to places e g =
      subst (All (IsReached start after)) (sym g.1) (All-weaker (λ q. q ≡ to) (IsReached start after) (λ q h. subst (IsReached start after) (sym (h ∙ e)) (reached-start start after)) g.0 g.2)

  pub walking-none : (to : P) (number made_before made limit_before limit : ℕ) (before places : List P) → before ≡ [] → to ≡ start → Grows (λ q. q ≡ to) before places → (AreDifferent before → AreDifferent places)
      → Numbers before to number places → Counts before places made_before made → limit ≡ limit_before → Walking start after accepting made_before made limit_before limit places []
  walking-none to number made_before made limit_before limit before places none e g d n c l = record {
    reached = first-reached to places e (subst (λ b. Grows (λ q. q ≡ to) b places) none g);
    different = d (subst AreDifferent (sym none) different-none);
    counted = omega (arith, c, ap length none);
    limits = l;
    first = subst (λ k. HasNumber places start k) at (subst (λ t. HasNumber places t number) e n.place);
    done = omega arith;
    rows = λ k e l. absurd (omega (arith, l));
  }
    where
      at : number ≡ 0
      at = elim n.kept [ inl same ↦ absurd (omega (arith, n.place.0, ap length same, ap length none)) | inr w ↦ omega (arith, w.1, ap length none) ]

  -- where the call stopped at the first place
  pub first-stops : (stop : Stop) (to : P) (before places : List P) (made_before made limit : ℕ) → made_before ≤ limit → before ≡ [] → to ≡ start → Grows (λ q. q ≡ to) before places
      → (AreDifferent before → AreDifferent places) → CountsOn stop before places made_before made limit → StopsSo start after stop made_before made limit
  first-stops stop to before places made_before made limit l none e g d c =
      stops-so start after stop before places made_before made_before made limit (omega (arith, ap length none)) (d (subst AreDifferent (sym none) different-none))
      (first-reached to places e (subst (λ b. Grows (λ q. q ≡ to) b places) none g)) c l

  module _ (made_before made made' limit_before limit limit' : ℕ) (places places' : List P) (states : List State)
      (m : Walking start after accepting made_before made limit_before limit places states) (more : length states < length places)
      (g : Grows (λ q. (byte : ℕ) × (byte < 256) × (q ≡ after (get_or places (length states) start) byte)) places places') (different : AreDifferent places → AreDifferent places') where
    place : P
    place = get_or places (length states) start

    reached' : All (IsReached start after) places'
    unfolding place
    reached' = reached-grown start after (get_or places (length states) start) places places' (m.reached (length states) start more) m.reached g

    pub walking-more : Counts places places' made made' → limit' ≡ limit → (edges : List Edge) → CoversBytes edges → All (λ e. e.to < length places') edges
        → ((byte : ℕ) → byte < 256 → HasNumber places' (after (get_or places (length states) start) byte) (target edges byte)) → (accepting' : Bool) → accepting' ≡ accepting (get_or places (length states) start)
        → Walking start after accepting made_before made' limit_before limit' places' (states ++ (record { accepting = accepting'; edges = edges }) ∷ [])
    walking-more count lim edges covers targets leads accepting' acc = record {
      reached = reached';
      different = different m.different;
      counted = omega (arith, count, m.counted);
      limits = lim ∙ m.limits;
      first = subst (λ t. HasNumber t start 0) (sym g.1) (number-kept places g.0 _ 0 m.first);
      done = omega (arith, more, ap length g.1, length-append places g.0, length_push states (record { accepting = accepting'; edges = edges }));
      rows = λ k e l. by k e (omega (arith, l, length_push states (record { accepting = accepting'; edges = edges })));
    }
      where
        by : (k : ℕ) (e : State) → k ≤ length states → IsPlaceState after accepting places' (get_or places' k start) (get_or (states ++ (record { accepting = accepting'; edges = edges }) ∷ []) k e)
        by k e l =
            elim (cases_lt k (length states)) [
              | inl lt ↦
                  subst (λ t. IsPlaceState after accepting t (get_or t k start) (get_or (states ++ (record { accepting = accepting'; edges = edges }) ∷ []) k e)) (sym g.1)
                  (subst (λ t. IsPlaceState after accepting (places ++ g.0) t (get_or (states ++ (record { accepting = accepting'; edges = edges }) ∷ []) k e)) (sym (get_or_append_left places g.0 start k (omega (arith, lt, more))))
                  (subst (IsPlaceState after accepting (places ++ g.0) (get_or places k start)) (sym (get_or_append_left states _ e k lt)) (place-state-kept places g.0 _ _ (m.rows k e lt))))
              | inr ge ↦
                  let at : k ≡ length states = omega (arith, l, ge) in
                  let here : get_or places' k start ≡ get_or places (length states) start = ap (λ t. get_or t k start) g.1 ∙ ap (λ n. get_or (places ++ g.0) n start) at ∙ get_or_append_left places g.0 start (length states) more in
                  let last : get_or (states ++ (record { accepting = accepting'; edges = edges }) ∷ []) k e ≡ record { accepting = accepting'; edges = edges } = get_or_push states _ e k (sym at) in
                  subst (λ t. IsPlaceState after accepting places' t (get_or (states ++ (record { accepting = accepting'; edges = edges }) ∷ []) k e)) (sym here)
                  (subst (IsPlaceState after accepting places' (get_or places (length states) start)) (sym last) (record { accepts = acc; covers = covers; targets = targets; leads = leads }))
            ]

    -- where a call inside stopped
    pub walking-stops : (stop : Stop) → CountsOn stop places places' made made' limit' → made_before ≤ limit' → StopsSo start after stop made_before made' limit'
    walking-stops stop c l = stops-so start after stop places places' made_before made made' limit' m.counted (different m.different) reached' c l

    -- the count doesn't fall there
    pub walking-kept : (stop : Stop) → CountsOn stop places places' made made' limit' → made ≤ limit' → made_before ≤ made'
    walking-kept stop c l =
        omega (arith, m.counted, stops-kept (λ q. (byte : ℕ) × (byte < 256) × (q ≡ after (get_or places (length states) start) byte)) stop places places' made made' limit' g l c)

  module _ (made_before made limit_before limit : ℕ) (places : List P) (states : List State)
      (m : Walking start after accepting made_before made limit_before limit places states) (all : length places ≤ length states) where
    pub walking-whole : length places < 2 ^ 32 → IsWhole (record { start = 0; states = states })
    walking-whole few = record {
      start = omega (arith, m.first.0, all);
      rows = λ k e l. (m.rows k e l).covers;
      targets = λ k e l. All-weaker (λ t. t.to < length places) (λ t. t.to < length states) (λ t h. omega (arith, h, all)) _ (m.rows k e l).targets;
      few = omega (arith, few, m.done);
    }

    -- the run of the result is the walk
    run : (k : ℕ) (text : List ℕ) → IsText text → k < length places → HasNumber places (led after (get_or places k start) text) (ends (record { start = 0; states = states }) k text)
    run k [] t l = (l, λ d. get_or_default places k d start l)
    run k (byte ∷ text) t l =
        let s = m.rows k (record { accepting = false; edges = [] }) (omega (arith, l, all)) in
        let n = s.leads byte (All-head (λ b. b < 256) byte text t) in
        subst (λ p. HasNumber places (led after p text) (ends (record { start = 0; states = states }) (next (record { start = 0; states = states }) k byte) text)) (n.1 start)
        (run (next (record { start = 0; states = states }) k byte) text (All-tail (λ b. b < 256) byte text t) n.0)

    run-start : (text : List ℕ) → IsText text → HasNumber places (led after start text) (ends (record { start = 0; states = states }) 0 text)
    run-start text t = subst (λ p. HasNumber places (led after p text) (ends (record { start = 0; states = states }) 0 text)) (m.first.1 start) (run 0 text t m.first.0)

    pub walking-language : (text : List ℕ) → IsText text → accepts (record { start = 0; states = states }) text ≡ accepting (led after start text)
    walking-language text t =
        let r = run-start text t in
        let k = ends (record { start = 0; states = states }) 0 text in
        (m.rows k (record { accepting = false; edges = [] }) (omega (arith, r.0, all))).accepts ∙ ap accepting (r.1 start)

    pub walking-exact : Exactly (LedAlike start after) (length states) IsText
    walking-exact = record {
      at_least = at_least-reached start after places (length states) m.different m.reached m.done;
      at_most = record {
        member = text_at start after places m.reached;
        number = λ text t. ends (record { start = 0; states = states }) 0 text;
        below = λ text t. omega (arith, (run-start text t).0, all);
        same = λ text t. text_at-leads start after places m.reached _ (run-start text t).0 ∙ (run-start text t).1 start;
      };
    }

    pub walking-counted : made ≡ made_before + length states
    walking-counted = omega (arith, m.counted, m.done, all)

    pub walking-made : Exactly (LedAlike start after) (made - made_before) IsText
    walking-made = subst (λ n. Exactly (LedAlike start after) n IsText) (let e : length states ≡ made - made_before = omega (arith, walking-counted) in e) walking-exact

module _ {P : Type 0} (start : P) (after : P → ℕ → P) {R : Type 0} (old new : Meter) (kept : KeepsLimit old new) where
  -- the count of a call that stopped
  pub makes-stopped : (stop : Stop) → StopsSo start after stop old.made new.made new.limit → Makes {A = List ℕ} {R = R} (LedAlike start after) IsText (Err stop) old new
  makes-stopped Full h = record { kept = kept; by = (h.0, subst (λ l. AtLeast (LedAlike start after) (l - old.made + 1) IsText) kept.limit h.1) }
  makes-stopped Memory h = record { kept = kept; by = h }

  -- the count of a call that stopped for want of memory before it made a node
  pub makes-none : new.made ≡ old.made → Makes {A = List ℕ} {R = R} (LedAlike start after) IsText (Err Memory) old new
  makes-none e = record {
    kept = kept;
    by = subst (λ n. AtLeast (LedAlike start after) n IsText) (let z : 0 ≡ new.made - old.made = omega (arith, e) in z) (at_least-none (LedAlike start after) IsText []);
  }

  -- the count of a call that made each node
  pub makes-all : (answer : R) → Exactly (LedAlike start after) (new.made - old.made) IsText → Makes {A = List ℕ} {R = R} (LedAlike start after) IsText (Ok answer) old new
  makes-all answer h = record { kept = kept; by = h }

-- what stands at a place of reached places is reached
pub reached-here : {P : Type 0} (start : P) (after : P → ℕ → P) (places : List P) (number : ℕ) (place : P) → All (IsReached start after) places → number < length places → place ≡ get_or places number place → IsReached start after place
reached-here start after places number place a l is = subst (IsReached start after) (sym is) (a number place l)

-- the element at a place of a list that grew is the one that stood there
pub place-here : {P : Type 0} (start : P) (Has : P → Type 0) (before places : List P) (number : ℕ) (r : P) → Grows Has before places → number < length before → r ≡ get_or places number r → r ≡ get_or before number start
place-here start Has before places number r g l is =
    is ∙ get_or_default places number r start (omega (arith, l, ap length g.1, length-append before g.0)) ∙ ap (λ t. get_or t number start) g.1 ∙ get_or_append_left before g.0 start number l

module _ {P R : Type 0} (start : P) (after : P → ℕ → P) where
  -- What texts of bytes lead to, counted by texts, is the places that some text leads to, counted themselves.
  pub makes-places : (result : Result R Stop) (old new : Meter) → Makes (LedAlike start after) IsText result old new → Makes ◌≡◌ (IsReached start after) result old new
  makes-places =
      makes-told (LedAlike start after) ◌≡◌ IsText (IsReached start after) (λ text t. led after start text) (λ text t. (text, t, refl)) (λ u v t s e. e) start (λ u v e. sym e) (λ u v w e f. e ∙ f) (λ u v t s e. e)
      (λ p q r e f. e ∙ f) (λ place r. (r.0, r.1, r.2))

  -- and back
  pub makes-texts : (result : Result R Stop) (old new : Meter) → Makes ◌≡◌ (IsReached start after) result old new → Makes (LedAlike start after) IsText result old new
  makes-texts =
      makes-told ◌≡◌ (LedAlike start after) (IsReached start after) IsText (λ place r. r.0) (λ place r. r.1) (λ p q r s e. sym r.2 ∙ e ∙ s.2) [] (λ p q e. sym e) (λ p q r e f. e ∙ f) (λ p q r s e. r.2 ∙ e ∙ sym s.2)
      (λ u v w e f. e ∙ f) (λ text t. (led after start text, (text, t, refl), refl))
