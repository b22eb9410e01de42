-- A pattern that is spelled has no repetition whose `most` is less than its `least`.
use Rattle.std.proofs.Common.{◌≡◌, ℕ, ◌+◌, List, [], ◌∷◌, map, Bool, true, false, ◌&&◌, nat_le, ◌==◌, cond, Option, Some, None, refl, sym, subst, ap, ◌∙◌, arith}
use Rattle.std.specs.List.{list_all}
use Rattle.std.proofs.lemmas.Bool.{le-leb}
use Rattle.waf_model.specs.PatternClasses.{Span, begins_with, tail, is_between, kind_or, kind_after, escape_at, set_of}
use Rattle.waf_model.specs.PatternGrammar.{Count, once, times, Written, nothing, anchored, one_of, group, barred, count_pieces, pieces, repeated, sequence, choice, item_first, alternatives, Spells}
use Rattle.waf_model.specs.PatternOrder.{at_most, ordered_step, is_ordered}
use Rattle.waf_model.specs.PatternPieces.{Piece, set, anchor, opens, closes, bar, count, class_set, class_at, spans_set, one_span, atom_at, group_at, number_at, after_most, after_comma, after_least, without_lazy, count_or_atom_at, piece_at, IsCut}
use Rattle.waf_model.specs.declared.pattern.ByteSet.{ByteSet}
use Rattle.waf_model.specs.declared.pattern.Pattern.{Pattern, Pattern-F, fold-roll-Pattern}
use Rattle.waf_model.specs.declared.pattern.Pattern.TheVariants.{Empty, Set, Start, Final, Seq, Alt, Repeat, rolls-Empty, rolls-Set, rolls-Start, rolls-Final, rolls-Seq, rolls-Alt, rolls-Repeat}

ordered-Empty : is_ordered Empty ≡ true
ordered-Empty = ap is_ordered (sym rolls-Empty) ∙ fold-roll-Pattern Bool ordered_step Pattern-F.Empty

ordered-Start : is_ordered Start ≡ true
ordered-Start = ap is_ordered (sym rolls-Start) ∙ fold-roll-Pattern Bool ordered_step Pattern-F.Start

ordered-Final : is_ordered Final ≡ true
ordered-Final = ap is_ordered (sym rolls-Final) ∙ fold-roll-Pattern Bool ordered_step Pattern-F.Final

ordered-Set : (bytes : ByteSet) → is_ordered (Set bytes) ≡ true
ordered-Set bytes = ap is_ordered (sym (rolls-Set bytes)) ∙ fold-roll-Pattern Bool ordered_step (Pattern-F.Set bytes)

ordered-Seq : (parts : List Pattern) → is_ordered (Seq parts) ≡ list_all (λ b. b) (map is_ordered parts)
ordered-Seq parts = ap is_ordered (sym (rolls-Seq parts)) ∙ fold-roll-Pattern Bool ordered_step (Pattern-F.Seq parts)

ordered-Alt : (parts : List Pattern) → is_ordered (Alt parts) ≡ list_all (λ b. b) (map is_ordered parts)
ordered-Alt parts = ap is_ordered (sym (rolls-Alt parts)) ∙ fold-roll-Pattern Bool ordered_step (Pattern-F.Alt parts)

ordered-Repeat : (inner : Pattern) (least : ℕ) (most : Option ℕ) → is_ordered (Repeat inner least most) ≡ (is_ordered inner && at_most least most)
ordered-Repeat inner least most =
    ap is_ordered (sym (rolls-Repeat inner least most)) ∙ fold-roll-Pattern Bool ordered_step (Pattern-F.Repeat inner least most)

-- the piece has no such count
abbrev pub IsFine : Piece → Type 0
IsFine (count least most factor) = at_most least most ≡ true
IsFine (anchor pattern) = is_ordered pattern ≡ true
IsFine other = Unit {0}

abbrev IsFineIn : Option (Piece × List ℕ) → Type 0
IsFineIn None = Unit {0}
IsFineIn (Some found) = IsFine found.0

-- what was found, if anything, has no such count
record Good (o : Option (Piece × List ℕ)) : Type 0 where
  fine : IsFineIn o

good_none : Good None
good_none = record { fine = tt }

good_set : (bytes : ByteSet) (rest : List ℕ) → Good (Some (set bytes, rest))
good_set bytes rest = record { fine = tt }

good_if : (b : Bool) (x y : Option (Piece × List ℕ)) → Good x → Good y → Good (cond b x y)
good_if true x y one other = one
good_if false x y one other = other

good_test : (b : Bool) (x : Option (Piece × List ℕ)) → (b ≡ true → Good x) → Good (cond b x None)
good_test true x one = one refl
good_test false x one = good_none

good_class : (fold negated : Bool) (o : Option (List Span × List ℕ)) → Good (class_set fold negated o)
good_class fold negated None = good_none
good_class fold negated (Some members) = good_set _ _

good_spans : (fold : Bool) (o : Option (List Span × List ℕ)) → Good (spans_set fold o)
good_spans fold None = good_none
good_spans fold (Some found) = good_set _ _

good_class_at : (fold : Bool) (text : List ℕ) → Good (class_at fold text)
good_class_at fold text = good_if _ _ _ (good_class fold true _) (good_class fold false _)

good_atom : (fold : Bool) (b : ℕ) (rest : List ℕ) → Good (atom_at fold b rest)
good_atom fold b rest = good_if (b == 46) _ _ (good_set (set_of ((0, 9) ∷ (11, 255) ∷ []) fold false) rest)
    (good_if (b == 91) _ _ (good_class_at fold rest)
    (good_if (b == 92) _ _ (good_spans fold (kind_or (kind_after rest) (one_span (escape_at rest))))
    (good_if (is_between 32 126 b) _ _ (good_set (set_of ((b, b) ∷ []) fold false) rest) good_none)))

good_opens : (rest : List ℕ) → Good (Some (opens, rest))
good_opens rest = record { fine = tt }

good_group : (text : List ℕ) → Good (group_at text)
good_group text = good_if _ _ _ (good_if _ _ _ (good_opens _) good_none) (good_opens _)

first_true : (a b : Bool) → (a && b) ≡ true → a ≡ true
first_true true b h = refl
first_true false b h = absurd (cc)

good_times : (least : ℕ) (most : Option ℕ) (factor : ℕ) (rest : List ℕ) → at_most least most ≡ true → Good (Some (count least most factor, rest))
good_times least most factor rest is = record { fine = is }

good_most : (least : ℕ) (o : Option (ℕ × List ℕ)) → Good (after_most least o)
good_most least None = good_none
good_most least (Some most) = good_test (nat_le least most.0 && begins_with 125 most.1) _ (λ h. good_times _ _ _ _ (first_true _ _ h))

good_comma : (least : ℕ) (text : List ℕ) → Good (after_comma least text)
good_comma least text = good_if _ _ _ (good_times least None (least + 1) _ refl) (good_most least (number_at text))

good_least : (o : Option (ℕ × List ℕ)) → Good (after_least o)
good_least None = good_none
good_least (Some least) = good_if _ _ _ (good_times least.0 (Some least.0) least.0 _ (le-leb least.0 least.0 (omega arith)))
    (good_if _ _ _ (good_comma least.0 (tail least.1)) good_none)

good_count : (fold : Bool) (b : ℕ) (rest : List ℕ) → Good (count_or_atom_at fold b rest)
good_count fold b rest = good_if (b == 42) _ _ (good_times 0 None 1 (without_lazy rest) refl)
    (good_if (b == 43) _ _ (good_times 1 None 1 (without_lazy rest) refl)
    (good_if (b == 63) _ _ (good_times 0 (Some 1) 1 (without_lazy rest) refl)
    (good_if (b == 123) _ _ (good_least (number_at rest)) (good_atom fold b rest))))

good_anchor : (pattern : Pattern) (rest : List ℕ) → is_ordered pattern ≡ true → Good (Some (anchor pattern, rest))
good_anchor pattern rest is = record { fine = is }

good_closes : (rest : List ℕ) → Good (Some (closes, rest))
good_closes rest = record { fine = tt }

good_bar : (rest : List ℕ) → Good (Some (bar, rest))
good_bar rest = record { fine = tt }

good_piece : (fold : Bool) (text : List ℕ) → Good (piece_at fold text)
good_piece fold [] = good_none
good_piece fold (b ∷ rest) = good_if (b == 40) _ _ (good_group rest)
    (good_if (b == 41) _ _ (good_closes rest)
    (good_if (b == 124) _ _ (good_bar rest)
    (good_if (b == 94) _ _ (good_anchor Start rest ordered-Start)
    (good_if (b == 36) _ _ (good_anchor Final rest ordered-Final) (good_count fold b rest)))))

abbrev AllFine : List Piece → Type 0
AllFine [] = Unit {0}
AllFine (piece ∷ more) = IsFine piece × AllFine more

cut_fine : (fold : Bool) (text : List ℕ) (all : List Piece) → IsCut fold text all → AllFine all
cut_fine fold text [] is_cut = tt
cut_fine fold text (piece ∷ more) (rest, found, others) = ((subst Good found (good_piece fold text)).fine, cut_fine fold rest more others)

abbrev Items : List Pattern → Type 0
Items [] = Unit {0}
Items (p ∷ ps) = (is_ordered p ≡ true) × Items ps

abbrev Parts : List (List Pattern) → Type 0
Parts [] = Unit {0}
Parts (items ∷ others) = Items items × Parts others

both_true : (a b : Bool) → a ≡ true → b ≡ true → (a && b) ≡ true
both_true true b x y = y
both_true false b x y = x

all_true : (ps : List Pattern) → Items ps → list_all (λ b. b) (map is_ordered ps) ≡ true
all_true [] h = refl
all_true (p ∷ ps) (one, more) = both_true (is_ordered p) (list_all (λ b. b) (map is_ordered ps)) one (all_true ps more)

sequence_ordered : (ps : List Pattern) → Items ps → is_ordered (sequence ps) ≡ true
sequence_ordered [] h = ordered-Empty
sequence_ordered (p ∷ []) (one, more) = one
sequence_ordered (p ∷ q ∷ ps) h = ordered-Seq (p ∷ q ∷ ps) ∙ all_true (p ∷ q ∷ ps) h

choice_ordered : (ps : List Pattern) → Items ps → is_ordered (choice ps) ≡ true
choice_ordered [] h = ordered-Alt []
choice_ordered (p ∷ []) (one, more) = one
choice_ordered (p ∷ q ∷ ps) h = ordered-Alt (p ∷ q ∷ ps) ∙ all_true (p ∷ q ∷ ps) h

sequences : (parts : List (List Pattern)) → Parts parts → Items (map sequence parts)
sequences [] h = tt
sequences (items ∷ others) (one, more) = (sequence_ordered items one, sequences others more)

abbrev CountFine : Count → Type 0
CountFine once = Unit {0}
CountFine (times least most factor) = at_most least most ≡ true

repeated_ordered : (p : Pattern) (c : Count) → is_ordered p ≡ true → CountFine c → is_ordered (repeated p c) ≡ true
repeated_ordered p once ordered fine = ordered
repeated_ordered p (times least most factor) ordered fine =
    ordered-Repeat p least most ∙ both_true (is_ordered p) (at_most least most) ordered fine

first_ordered : (p : Pattern) (parts : List (List Pattern)) → is_ordered p ≡ true → Parts parts → Parts (item_first p parts)
first_ordered p [] ordered h = ((ordered, tt), tt)
first_ordered p (items ∷ others) ordered (one, more) = ((ordered, one), more)

count_fine : (c : Count) (more : List Piece) → AllFine (count_pieces c more) → CountFine c × AllFine more
count_fine once more h = (tt, h)
count_fine (times least most factor) more h = h

written_ordered : (w : Written) (more : List Piece) → AllFine (pieces w more) → Parts (alternatives w) × AllFine more
written_ordered nothing more h = ((tt, tt), h)
written_ordered (anchored pattern rest) more (one, h) =
    let (parts, behind) = written_ordered rest more h in (first_ordered pattern (alternatives rest) one parts, behind)
written_ordered (one_of bytes counted rest) more (one, h) =
    let (fine, after) = count_fine counted (pieces rest more) h in
    let (parts, behind) = written_ordered rest more after in
    (first_ordered (repeated (Set bytes) counted) (alternatives rest) (repeated_ordered (Set bytes) counted (ordered-Set bytes) fine) parts, behind)
written_ordered (group inner counted rest) more (one, h) =
    let (inside, closing) = written_ordered inner (closes ∷ count_pieces counted (pieces rest more)) h in
    let (fine, after) = count_fine counted (pieces rest more) closing.1 in
    let (parts, behind) = written_ordered rest more after in (
      first_ordered (repeated (choice (map sequence (alternatives inner))) counted) (alternatives rest)
          (repeated_ordered (choice (map sequence (alternatives inner))) counted
          (choice_ordered (map sequence (alternatives inner)) (sequences (alternatives inner) inside)) fine) parts,
      behind,
    )
written_ordered (barred rest) more (one, h) =
    let (parts, behind) = written_ordered rest more h in ((tt, parts), behind)

pub spells_ordered : (text : List ℕ) (pattern : Pattern) → Spells text pattern → is_ordered pattern ≡ true
spells_ordered text pattern (all, w, is_cut, writes) =
    let fine : AllFine (pieces w []) = subst AllFine (sym writes.pieces_are) (cut_fine _ _ all is_cut) in
    let (parts, none) = written_ordered w [] fine in
    ap is_ordered (sym writes.pattern_is) ∙ choice_ordered (map sequence (alternatives w)) (sequences (alternatives w) parts)
