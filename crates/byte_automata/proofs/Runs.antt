-- Facts on runs of an automaton.
use Rattle.std.proofs.Common.{◌≡◌, ℕ, ◌+◌, ◌<◌, List, [], ◌∷◌, ◌++◌, false, not, length, map, set, take, drop, get_or, refl, ap, ◌∙◌, arith, sym}
use Rattle.std.specs.List.{All}
use Rattle.std.proofs.lemmas.List.{append_assoc, drop_more, set_at, length-map, length-take-le, map_more, get_or_at, get_or-map}
use Rattle.std.proofs.lemmas.List.Elements.{All-map, All-weaker}
use Rattle.byte_automata.specs.declared.state.State.{State}
use Rattle.byte_automata.specs.Row.{target, CoversBytes}
use Rattle.byte_automata.specs.Automaton.{Automaton, IsWhole, state_at, accepting, next, ends, accepts, flipped}
use Rattle.byte_automata.proofs.Rows.{target-within}

-- a byte leads to a state of the automaton
pub next-within : (d : Automaton) → IsWhole d → (state byte : ℕ) → state < length d.states → next d state byte < length d.states
next-within d w state byte h = target-within (length d.states) (state_at d state).edges byte (w.rows state _ h) (w.targets state _ h)

-- a text ends in a state of the automaton
pub ends-within : (d : Automaton) → IsWhole d → (state : ℕ) (text : List ℕ) → state < length d.states → ends d state text < length d.states
ends-within d w state [] h = h
ends-within d w state (byte ∷ text) h = ends-within d w (next d state byte) text (next-within d w state byte h)

-- a text in two parts
pub ends-append : (d : Automaton) (state : ℕ) (u v : List ℕ) → ends d state (u ++ v) ≡ ends d (ends d state u) v
ends-append d state [] v = refl
ends-append d state (byte ∷ u) v = ends-append d (next d state byte) u v

-- one state more is flipped
pub flipped-more : (states : List State) (i : ℕ) (e : State) → i < length states → set (map flipped (take i states) ++ drop i states) i (flipped (get_or states i e)) ≡ map flipped (take (i + 1) states) ++ drop (i + 1) states
flipped-more states i e l =
    ap (λ t. set (map flipped (take i states) ++ t) i (flipped (get_or states i e))) (drop_more states i e l)
    ∙ set_at (map flipped (take i states)) (get_or states i e) (drop (i + 1) states) (flipped (get_or states i e)) i (length-map (take i states) flipped ∙ length-take-le i states (omega (arith, l)))
    ∙ sym (append_assoc (map flipped (take i states)) (flipped (get_or states i e) ∷ []) (drop (i + 1) states))
    ∙ ap (λ t. t ++ drop (i + 1) states) (sym (map_more flipped states i e l))

pub flipped-at : (states : List State) (i : ℕ) (e : State) → i < length states → get_or (map flipped (take i states) ++ drop i states) i e ≡ get_or states i e
flipped-at states i e l =
    ap (λ t. get_or (map flipped (take i states) ++ t) i e) (drop_more states i e l)
    ∙ get_or_at (map flipped (take i states)) (get_or states i e) (drop (i + 1) states) e i (length-map (take i states) flipped ∙ length-take-le i states (omega (arith, l)))

module _ (d : Automaton) (w : IsWhole d) where
  flipped-state : (state : ℕ) → state < length d.states → state_at (record { start = d.start; states = map flipped d.states }) state ≡ flipped (state_at d state)
  flipped-state state l = get_or-map flipped d.states state (record { accepting = false; edges = [] }) (record { accepting = false; edges = [] }) l

  pub flipped-ends : (state : ℕ) (text : List ℕ) → state < length d.states → ends (record { start = d.start; states = map flipped d.states }) state text ≡ ends d state text
  flipped-ends state [] l = refl
  flipped-ends state (byte ∷ text) l =
      let e : next (record { start = d.start; states = map flipped d.states }) state byte ≡ next d state byte = ap (λ s. target s.edges byte) (flipped-state state l) in
      ap (λ s. ends (record { start = d.start; states = map flipped d.states }) s text) e ∙ flipped-ends (next d state byte) text (next-within d w state byte l)

  pub flipped-accepts : (text : List ℕ) → accepts (record { start = d.start; states = map flipped d.states }) text ≡ not (accepts d text)
  flipped-accepts text =
      ap (λ s. accepting (record { start = d.start; states = map flipped d.states }) s) (flipped-ends d.start text w.start) ∙ ap (λ s. s.accepting) (flipped-state (ends d d.start text) (ends-within d w d.start text w.start))

  pub flipped-whole : IsWhole (record { start = d.start; states = map flipped d.states })
  flipped-whole =
      let n = length-map d.states flipped in
      record {
        start = omega (arith, w.start, n);
        rows = All-map (λ s. CoversBytes s.edges) flipped d.states w.rows;
        targets = All-map (λ s. All (λ e. e.to < length (map flipped d.states)) s.edges) flipped d.states (λ k s l. All-weaker (λ e. e.to < length d.states) (λ e. e.to < length (map flipped d.states)) (λ e h. omega (arith, h, n)) _ (w.targets k s l));
        few = omega (arith, w.few, n);
      }
