-- The walk along pairs of states: what texts lead to, counted, and the language of its automaton.
use Rattle.std.proofs.Common.{◌≡◌, ℕ, ◌<◌, ◌&&◌, Bool, Result, List, [], ◌∷◌, length, refl, sym, ap, ◌∙◌, subst}
use Rattle.waf_base.specs.Makes.{Makes}
use Rattle.waf_base.specs.declared.meter.Meter.{Meter}
use Rattle.waf_base.specs.declared.refusal.Stop.{Stop}
use Rattle.byte_automata.specs.declared.state_pair.StatePair.{StatePair}
use Rattle.byte_automata.specs.Automaton.{Automaton, IsWhole, state_at, accepting, ends, accepts}
use Rattle.byte_automata.specs.Meet.{IsReachablePair, start_pair, next_pair, is_kept}
use Rattle.byte_automata.specs.Texts.{IsText}
use Rattle.byte_automata.specs.Walk.{led, IsReached, LedAlike}
use Rattle.waf_base.proofs.Made.{makes-told}
use Rattle.byte_automata.proofs.Residuals.{bounded, bounded-text, ends-bounded}
use Rattle.byte_automata.proofs.Runs.{ends-within}
use Rattle.byte_automata.proofs.Walks.{makes-places}

module _ (left right : Automaton) where
  -- a text leads a pair to the states in which it ends in both automata
  pub led-pairs : (pair : StatePair) (text : List ℕ) → led (next_pair left right) pair text ≡ record { left = ends left pair.left text; right = ends right pair.right text }
  led-pairs pair [] = refl
  led-pairs pair (byte ∷ text) = led-pairs (next_pair left right pair byte) text

  reached-pair : (pair : StatePair) → IsReached (start_pair left right) (next_pair left right) pair → IsReachablePair left right pair
  reached-pair pair r =
      let e : record { left = ends left left.start r.0; right = ends right right.start r.0 } ≡ pair = sym (led-pairs (start_pair left right) r.0) ∙ r.2 in
      (r.0, ap (λ p. p.left) e, ap (λ p. p.right) e)

  module _ (wl : IsWhole left) (wr : IsWhole right) where
    reachable-reached : (pair : StatePair) → IsReachablePair left right pair → IsReached (start_pair left right) (next_pair left right) pair
    reachable-reached pair r = (
      bounded r.0,
      bounded-text r.0,
      led-pairs (start_pair left right) (bounded r.0)
          ∙ (λ i. record { left = (ends-bounded left wl left.start r.0 wl.start ∙ r.1) i; right = (ends-bounded right wr right.start r.0 wr.start ∙ r.2) i }),
    )

    -- the states of a pair that is reached are states of the automata
    pub pair-within : (pair : StatePair) → IsReached (start_pair left right) (next_pair left right) pair → (pair.left < length left.states) × (pair.right < length right.states)
    pair-within pair reached =
        let r = reached-pair pair reached in (
          subst (λ n. n < length left.states) r.1 (ends-within left wl left.start r.0 wl.start),
          subst (λ n. n < length right.states) r.2 (ends-within right wr right.start r.0 wr.start),
        )

    -- counted by texts, the walk makes one node for each reachable pair
    pub makes-pairs : {R : Type 0} (result : Result R Stop) (old new : Meter) → Makes (LedAlike (start_pair left right) (next_pair left right)) IsText result old new
        → Makes ◌≡◌ (IsReachablePair left right) result old new
    makes-pairs result old new m =
        makes-told ◌≡◌ ◌≡◌ (IsReached (start_pair left right) (next_pair left right)) (IsReachablePair left right) (λ pair r. pair) reached-pair (λ p q r s e. e) (start_pair left right) (λ p q e. sym e) (λ p q r e f. e ∙ f)
        (λ p q r s e. e) (λ p q r e f. e ∙ f) (λ pair r. (pair, reachable-reached pair r, refl)) result old new
        (makes-places (start_pair left right) (next_pair left right) result old new m)

    -- the automaton of the walk accepts what the left one accepts and the right one does or doesn't
    pub pairs-language : (kept : Bool) (found : Automaton) → IsWhole found
        → ((text : List ℕ) → IsText text → accepts found text ≡ (accepting left (led (next_pair left right) (start_pair left right) text).left && is_kept kept (accepting right (led (next_pair left right) (start_pair left right) text).right)))
        → (text : List ℕ) → accepts found text ≡ (accepts left text && is_kept kept (accepts right text))
    pairs-language kept found wf language text =
        let here : led (next_pair left right) (start_pair left right) (bounded text) ≡ record { left = ends left left.start text; right = ends right right.start text } =
        led-pairs (start_pair left right) (bounded text) ∙ (λ i. record { left = ends-bounded left wl left.start text wl.start i; right = ends-bounded right wr right.start text wr.start i }) in
        ap (λ s. (state_at found s).accepting) (sym (ends-bounded found wf found.start text wf.start))
        ∙ language (bounded text) (bounded-text text)
        ∙ (λ i. accepting left (here i).left && is_kept kept (accepting right (here i).right))
