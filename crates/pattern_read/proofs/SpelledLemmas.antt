-- The pattern that a text spells, as a function, is the one that the grammar gives.
use Rattle.std.proofs.Common.{◌≡◌, ℕ, zero, suc, ◌≤◌, List, [], ◌∷◌, length, Bool, true, false, nat_le, cond, Option, Some, None, MatchOption, refl, sym, subst, ap, ◌∙◌, arith}
use Rattle.std.specs.Prelude.{option_and_then}
use Rattle.std.proofs.lemmas.Bool.{le-leb, leb-true}
use Rattle.waf_model.specs.PatternClasses.{tail}
use Rattle.waf_model.specs.PatternGrammar.{Spells, folds, unfolded}
use Rattle.waf_model.specs.PatternPieces.{Piece, piece_at, IsCut}
use Rattle.waf_model.specs.declared.pattern.Pattern.{Pattern}
use Rattle.pattern_read.specs.Machine.{run_from, first, closed}
use Rattle.pattern_read.specs.Spelled.{pieces_of, whole_pattern, pattern_spelled}
use Rattle.pattern_read.specs.declared.group.Atom.{Atom}
use Rattle.pattern_read.specs.declared.group.Group.{Group}
use Rattle.pattern_read.specs.declared.state.State.{State}
use Rattle.pattern_read.proofs.LeavesLemmas.{piece_less, tail_of_tails_less}
use Rattle.pattern_read.proofs.Spelling.{spelled, spells}

-- a piece, and what the rest is cut into
abbrev then_pieces : Bool → ℕ → Option (Piece × List ℕ) → Option (List Piece)
then_pieces fold n o = option_and_then (λ found. option_and_then (λ more. Some (found.0 ∷ more)) (pieces_of fold found.1 n)) o

is_cut : (fold : Bool) (text : List ℕ) (n : ℕ) (all : List Piece) → pieces_of fold text n ≡ Some all → IsCut fold text all
is_cut fold [] n all is = let none : [] ≡ all = cc in subst (IsCut fold []) none refl
is_cut fold (b ∷ text) zero all is = absurd (cc)
is_cut fold (b ∷ text) (suc n) all is = by_piece (piece_at fold (b ∷ text)) refl is (λ rest more so. is_cut fold rest n more so)
  where
    by_piece : (o : Option (Piece × List ℕ)) → piece_at fold (b ∷ text) ≡ o → then_pieces fold n o ≡ Some all →
        ((rest : List ℕ) (more : List Piece) → pieces_of fold rest n ≡ Some more → IsCut fold rest more) → IsCut fold (b ∷ text) all
    by_piece None found is cut = absurd (cc)
    by_piece (Some (piece, rest)) found is cut = by_more (pieces_of fold rest n) refl is
      where
        by_more : (o : Option (List Piece)) → pieces_of fold rest n ≡ o → option_and_then (λ more. Some (piece ∷ more)) o ≡ Some all →
            IsCut fold (b ∷ text) all
        by_more None behind is = absurd (cc)
        by_more (Some more) behind is =
            let same : piece ∷ more ≡ all = cc in subst (IsCut fold (b ∷ text)) same (rest, found, cut rest more behind)

cut_is : (fold : Bool) (text : List ℕ) (n : ℕ) (all : List Piece) → length text ≤ n → IsCut fold text all → pieces_of fold text n ≡ Some all
cut_is fold [] n [] within h = refl
cut_is fold [] n (piece ∷ all) within (rest, found, more) = absurd (cc)
cut_is fold (b ∷ text) zero all within h = absurd (omega arith)
cut_is fold (b ∷ text) (suc n) [] within h = absurd (cc)
cut_is fold (b ∷ text) (suc n) (piece ∷ all) within (rest, found, more) =
    let less : length rest ≤ length text = piece_less fold b text rest piece found in
    ap (then_pieces fold n) found
    ∙ ap (option_and_then (λ x. Some (piece ∷ x))) (cut_is fold rest n all (omega (arith, less, within)) more)

unfolded_less : (text : List ℕ) → length (unfolded text) ≤ length text
unfolded_less text = by_test (folds text)
  where
    by_test : (b : Bool) → length (cond b (tail (tail (tail (tail text)))) text) ≤ length text
    by_test true = tail_of_tails_less text
    by_test false = omega arith

few : (whole : Atom) → whole.places ≤ 2000 → whole_pattern [] whole ≡ Some whole.pattern
few whole within = ap (λ (b : Bool). cond b (Some whole.pattern) None) (le-leb whole.places 2000 within)

-- what is spelled is the function's
pub spelled_is : (text : List ℕ) (pattern : Pattern) → Spells text pattern → pattern_spelled text ≡ Some pattern
unfolding pattern_spelled
spelled_is text pattern h =
    let (state, so) = spelled text pattern h in
    let (all, cut, runs) = so.arrives in
    ap (option_and_then (λ x. option_and_then (λ s. whole_pattern s.outer (closed s.group)) (run_from x (Some first))))
    (cut_is (folds text) (unfolded text) (length text) all (unfolded_less text) cut)
    ∙ ap (option_and_then (λ s. whole_pattern s.outer (closed s.group))) runs
    ∙ ap (λ (outer : List Group). whole_pattern outer (closed state.group)) so.closed_all
    ∙ few (closed state.group) so.few
    ∙ ap Some so.pattern_is

-- what the last state gives is spelled
ends : (text : List ℕ) (all : List Piece) (state : State) (pattern : Pattern) → IsCut (folds text) (unfolded text) all →
    run_from all (Some first) ≡ Some state → whole_pattern state.outer (closed state.group) ≡ Some pattern → Spells text pattern
ends text all state pattern cut runs is = by_outer state.outer refl is
  where
    by_places : (b : Bool) → nat_le (closed state.group).places 2000 ≡ b → state.outer ≡ [] →
        cond b (Some (closed state.group).pattern) None ≡ Some pattern → Spells text pattern
    by_places true within done is =
        let same : (closed state.group).pattern ≡ pattern = cc in
        subst (Spells text) same (spells text state (all, cut, runs) done (leb-true (closed state.group).places 2000 within))
    by_places false within done is = absurd (cc)

    by_outer : (outer : List Group) → state.outer ≡ outer → whole_pattern outer (closed state.group) ≡ Some pattern → Spells text pattern
    by_outer [] done is = by_places (nat_le (closed state.group).places 2000) refl done is
    by_outer (g ∷ outer) done is = absurd (cc)

-- what the function gives is spelled
is_spelled : (text : List ℕ) (pattern : Pattern) → pattern_spelled text ≡ Some pattern → Spells text pattern
unfolding pattern_spelled
is_spelled text pattern is = by_pieces (pieces_of (folds text) (unfolded text) (length text)) refl is
  where
    by_state : (all : List Piece) (o : Option State) → IsCut (folds text) (unfolded text) all → run_from all (Some first) ≡ o →
        option_and_then (λ s. whole_pattern s.outer (closed s.group)) o ≡ Some pattern → Spells text pattern
    by_state all None cut runs is = absurd (cc)
    by_state all (Some state) cut runs is = ends text all state pattern cut runs is

    by_pieces : (o : Option (List Piece)) → pieces_of (folds text) (unfolded text) (length text) ≡ o →
        option_and_then (λ x. option_and_then (λ s. whole_pattern s.outer (closed s.group)) (run_from x (Some first))) o ≡ Some pattern →
        Spells text pattern
    by_pieces None found is = absurd (cc)
    by_pieces (Some all) found is =
        by_state all (run_from all (Some first)) (is_cut (folds text) (unfolded text) (length text) all found) refl is

abbrev Law : List ℕ → Option Pattern → Type 0
Law text o = MatchOption o ((pattern : Pattern) → Spells text pattern → ⊥) (Spells text)

pub pinned : (text : List ℕ) → Law text (pattern_spelled text)
pinned text = by_cases (pattern_spelled text) refl
  where
    by_cases : (o : Option Pattern) → pattern_spelled text ≡ o → Law text o
    by_cases None is = λ pattern h. let other : pattern_spelled text ≡ Some pattern = spelled_is text pattern h in absurd (cc)
    by_cases (Some pattern) is = is_spelled text pattern is

-- the law holds of one value alone
pub only : (text : List ℕ) (found : Option Pattern) → Law text found → found ≡ pattern_spelled text
only text None none = by_cases (pattern_spelled text) (pinned text)
  where
    by_cases : (o : Option Pattern) → Law text o → None ≡ o
    by_cases None h = refl
    by_cases (Some pattern) h = absurd (none pattern h)
only text (Some pattern) h = sym (spelled_is text pattern h)
