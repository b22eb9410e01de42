-- What the reader's last state says of the text.
use Rattle.std.proofs.Common.{◌≡◌, ℕ, ◌≤◌, List, [], ◌∷◌, Bool, Some, None, refl, sym, subst, ap, ◌∙◌, arith}
use Rattle.waf_model.specs.PatternGrammar.{Written, Spells, folds, unfolded, pieces, places, depth}
use Rattle.waf_model.specs.PatternPieces.{Piece, IsCut, piece_at}
use Rattle.waf_model.specs.declared.pattern.Pattern.{Pattern}
use Rattle.pattern_read.specs.Machine.{run_from, first, fresh, closed, Arrives}
use Rattle.pattern_read.specs.declared.group.Group.{Group}
use Rattle.pattern_read.specs.declared.state.State.{State}
use Rattle.pattern_read.proofs.Completeness.{after, runs}
use Rattle.pattern_read.proofs.Going.{same_piece_there, same_rest_there}
use Rattle.pattern_read.proofs.Parts.{closed_pattern, after_places}
use Rattle.pattern_read.proofs.Soundness.{whole}

-- the state that something written leads to
abbrev pub end_of : Written → State
end_of w = record { outer = []; group = after fresh w }

run_of : (w : Written) → depth w ≤ 100 → run_from (pieces w []) (Some first) ≡ Some (end_of w)
run_of w shallow = runs w [] fresh [] (omega arith)

small_places : (w : Written) → (closed (after fresh w)).places ≤ 2000 → places w ≤ 2000
small_places w few = let same = after_places w fresh in omega (arith, same)

few_places : (w : Written) → places w ≤ 2000 → (closed (after fresh w)).places ≤ 2000
few_places w few = let same = after_places w fresh in omega (arith, same)

-- a last state with no open group and few places spells its pattern
pub spells : (text : List ℕ) (state : State) → Arrives (folds text) (unfolded text) first state → state.outer ≡ [] →
    (closed state.group).places ≤ 2000 → Spells text (closed state.group).pattern
spells text state (all, is_cut, runs_to) done few =
    let (w, is, shallow) = whole all state runs_to done in
    let reached : Some state ≡ Some (end_of w) = sym runs_to ∙ ap (λ (x : List Piece). run_from x (Some first)) (sym is) ∙ run_of w shallow in
    let same : state ≡ end_of w = cc in
    let group_is : state.group ≡ after fresh w = ap (λ (x : State). x.group) same in (
      all,
      w,
      is_cut,
      record {
        pieces_are = is;
        few_places = small_places w (subst (λ (g : Group). (closed g).places ≤ 2000) group_is few);
        not_deep = shallow;
        pattern_is = sym (ap (λ (g : Group). (closed g).pattern) group_is ∙ closed_pattern w);
      },
    )

-- what a spelled text leads to
pub record Spelled (text : List ℕ) (pattern : Pattern) (state : State) : Type 0 where
  pub arrives : Arrives (folds text) (unfolded text) first state
  pub closed_all : state.outer ≡ []
  pub few : (closed state.group).places ≤ 2000
  pub pattern_is : (closed state.group).pattern ≡ pattern

pub spelled : (text : List ℕ) (pattern : Pattern) → Spells text pattern → (state : State) × Spelled text pattern state
spelled text pattern (all, w, is_cut, writes) = (
  end_of w,
  record {
    arrives = (all, is_cut, ap (λ (x : List Piece). run_from x (Some first)) (sym writes.pieces_are) ∙ run_of w writes.not_deep);
    closed_all = refl;
    few = few_places w writes.few_places;
    pattern_is = closed_pattern w ∙ writes.pattern_is;
  },
)

-- a text is cut in one way
one_cut : (fold : Bool) (text : List ℕ) (a b : List Piece) → IsCut fold text a → IsCut fold text b → a ≡ b
one_cut fold text [] [] x y = refl
one_cut fold text [] (q ∷ b) x (s, there, more) = let nothing : piece_at fold text ≡ None = ap (piece_at fold) x in absurd (cc)
one_cut fold text (p ∷ a) [] (r, there, more) y = let nothing : piece_at fold text ≡ None = ap (piece_at fold) y in absurd (cc)
one_cut fold text (p ∷ a) (q ∷ b) (r, here, more) (s, there, others) =
    let same_piece : p ≡ q = same_piece_there p q r s (piece_at fold text) here there in
    let same_rest : r ≡ s = same_rest_there p q r s (piece_at fold text) here there in
    let behind : a ≡ b = one_cut fold s a b (subst (λ (x : List ℕ). IsCut fold x a) same_rest more) others in
    cc

-- so it leads to one state
one_end : (fold : Bool) (text : List ℕ) (a b : State) → Arrives fold text first a → Arrives fold text first b → a ≡ b
one_end fold text a b (all, is_cut, runs_to) (others, also_cut, also_runs) =
    let same : all ≡ others = one_cut fold text all others is_cut also_cut in
    let ends : Some a ≡ Some b = sym runs_to ∙ ap (λ (x : List Piece). run_from x (Some first)) same ∙ also_runs in
    cc

pub one_pattern : (text : List ℕ) (a b : Pattern) → Spells text a → Spells text b → a ≡ b
one_pattern text a b x y =
    let (s, one) = spelled text a x in
    let (t, two) = spelled text b y in
    let same : s ≡ t = one_end (folds text) (unfolded text) s t one.arrives two.arrives in
    sym one.pattern_is ∙ ap (λ (z : State). (closed z.group).pattern) same ∙ two.pattern_is
