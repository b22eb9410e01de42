-- The reader's way along a text.
use Rattle.std.proofs.Common.{◌≡◌, ℕ, List, [], ◌∷◌, Bool, Option, Some, None, refl, sym, subst, ap, ◌∙◌}
use Rattle.waf_model.specs.PatternPieces.{Piece, piece_at, IsCut}
use Rattle.pattern_read.specs.Machine.{moved, run_from, Arrives}
use Rattle.pattern_read.specs.declared.state.State.{State}

-- what the rest leads to from here is what the whole leads to
pub record Going (fold : Bool) (text : List ℕ) (from : State) (rest : List ℕ) (state : State) : Type 0 where
  pub onward : (to : State) → Arrives fold rest state to → Arrives fold text from to
  pub back : (to : State) → Arrives fold text from to → Arrives fold rest state to

pub going_begins : (fold : Bool) (text : List ℕ) (from : State) → Going fold text from text from
going_begins fold text from = record { onward = λ to h. h; back = λ to h. h }

pub none_stays : (all : List Piece) → run_from all None ≡ None
none_stays [] = refl
none_stays (piece ∷ more) = none_stays more

piece_in : Piece → Option (Piece × List ℕ) → Piece
piece_in other None = other
piece_in other (Some found) = found.0

rest_in : List ℕ → Option (Piece × List ℕ) → List ℕ
rest_in other None = other
rest_in other (Some found) = found.1

pub same_piece_there : (p q : Piece) (r s : List ℕ) (o : Option (Piece × List ℕ)) → o ≡ Some (p, r) → o ≡ Some (q, s) → p ≡ q
unfolding piece_in
same_piece_there p q r s o one other = ap (piece_in p) (sym one ∙ other)

pub same_rest_there : (p q : Piece) (r s : List ℕ) (o : Option (Piece × List ℕ)) → o ≡ Some (p, r) → o ≡ Some (q, s) → r ≡ s
unfolding rest_in
same_rest_there p q r s o one other = ap (rest_in r) (sym one ∙ other)

-- one piece more
pub going_moves : (fold : Bool) (text : List ℕ) (from : State) (rest next : List ℕ) (piece : Piece) (state after : State) →
    Going fold text from rest state → piece_at fold rest ≡ Some (piece, next) → moved state piece ≡ Some after →
    Going fold text from next after
going_moves fold text from rest next piece state after so found moves = record {
  onward = λ to h.
      let (all, is_cut, runs) = h in
      so.onward to (piece ∷ all, (next, found, is_cut), ap (run_from all) moves ∙ runs);
  back = λ to h. back_from to (so.back to h);
}
  where
    back_from : (to : State) → Arrives fold rest state to → Arrives fold next after to
    back_from to ([], is_cut, runs) =
        let nothing : piece_at fold rest ≡ None = ap (piece_at fold) is_cut in absurd (cc)
    back_from to (p ∷ all, is_cut, runs) =
        let (r, there, more) = is_cut in
        let same_piece : p ≡ piece = same_piece_there p piece r next (piece_at fold rest) there found in
        let same_rest : r ≡ next = same_rest_there p piece r next (piece_at fold rest) there found in (
          all,
          subst (λ (x : List ℕ). IsCut fold x all) same_rest more,
          sym (ap (run_from all) moves) ∙ subst (λ (x : Piece). run_from all (moved state x) ≡ Some to) same_piece runs,
        )

-- no piece stands there
pub going_stuck : (fold : Bool) (text : List ℕ) (from : State) (rest : List ℕ) (state to : State) →
    Going fold text from rest state → (rest ≡ [] → ⊥) → piece_at fold rest ≡ None → Arrives fold text from to → ⊥
going_stuck fold text from rest state to so more none h = stuck (so.back to h)
  where
    stuck : Arrives fold rest state to → ⊥
    stuck ([], is_cut, runs) = more is_cut
    stuck (p ∷ all, is_cut, runs) = let (r, there, others) = is_cut in absurd (cc)

-- the piece may not stand there
pub going_refused : (fold : Bool) (text : List ℕ) (from : State) (rest next : List ℕ) (piece : Piece) (state to : State) →
    Going fold text from rest state → piece_at fold rest ≡ Some (piece, next) → moved state piece ≡ None → Arrives fold text from to → ⊥
going_refused fold text from rest next piece state to so found refused h = stuck (so.back to h)
  where
    stuck : Arrives fold rest state to → ⊥
    stuck ([], is_cut, runs) =
        let nothing : piece_at fold rest ≡ None = ap (piece_at fold) is_cut in absurd (cc)
    stuck (p ∷ all, is_cut, runs) =
        let (r, there, more) = is_cut in
        let same_piece : p ≡ piece = same_piece_there p piece r next (piece_at fold rest) there found in
        let none : run_from all (moved state p) ≡ None = ap (λ (x : Piece). run_from all (moved state x)) same_piece ∙ ap (run_from all) refused ∙ none_stays all in
        absurd (cc)

-- the end of the text
pub going_ends : (fold : Bool) (text : List ℕ) (from : State) (rest : List ℕ) (state : State) →
    Going fold text from rest state → rest ≡ [] → Arrives fold text from state × ((to : State) → Arrives fold text from to → to ≡ state)
going_ends fold text from rest state so at_end = (so.onward state ([], at_end, refl), λ to h. same to (so.back to h))
  where
    same : (to : State) → Arrives fold rest state to → to ≡ state
    same to ([], is_cut, runs) = cc
    same to (p ∷ all, is_cut, runs) =
        let (r, there, more) = is_cut in
        let nothing : piece_at fold rest ≡ None = ap (piece_at fold) at_end in absurd (cc)
