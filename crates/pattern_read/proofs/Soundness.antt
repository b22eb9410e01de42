-- Pieces that lead the reader to the end are the pieces of something written.
use Rattle.std.proofs.Common.{◌≡◌, ℕ, suc, ◌+◌, ◌*◌, ◌<◌, ◌≤◌, List, [], ◌∷◌, ◌++◌, length, Bool, true, false, nat_lt, cond, Option, Some, None, refl, sym, ap, ◌∙◌, arith}
use Rattle.std.proofs.lemmas.Bool.{ltb-true}
use Rattle.std.proofs.lemmas.List.{length-append}
use Rattle.waf_model.specs.PatternGrammar.{Count, once, times, Written, nothing, anchored, one_of, group, barred, count_pieces, pieces, depth}
use Rattle.waf_model.specs.PatternPieces.{Piece, set, anchor, opens, closes, bar, count}
use Rattle.waf_model.specs.declared.pattern.Pattern.{Pattern, Set, Repeat}
use Rattle.pattern_read.specs.Machine as machine
use Rattle.pattern_read.specs.Machine.{run_from, moved, with_atom, closed_into, split_last, counted_with, in_group}
use Rattle.pattern_read.specs.declared.group.Atom.{Atom}
use Rattle.pattern_read.specs.declared.group.Group.{Group}
use Rattle.pattern_read.specs.declared.state.State.{State}
use Rattle.pattern_read.proofs.Completeness.{opened}
use Rattle.pattern_read.proofs.Going.{none_stays}
use Rattle.pattern_read.proofs.Splits.{split_last-length}

-- what is still to come of a group: a count of its last atom, and then more
abbrev pub Rest : Type 0
Rest = Count × Written

-- the pieces still to come of the innermost group, and then of those around it
abbrev pub unread : Count → Written → List Rest → List Piece
unread c w [] = count_pieces c (pieces w [])
unread c w (r ∷ rs) = count_pieces c (pieces w (closes ∷ unread r.0 r.1 rs))

abbrev pub Shallow : List Rest → Type 0
Shallow [] = Unit {0}
Shallow (r ∷ rs) = (depth r.1 + length rs ≤ 100) × Shallow rs

-- the pieces from a state on
pub record Coming (all : List Piece) (s : State) : Type 0 where
  pub counted : Count
  pub written : Written
  pub around : List Rest
  pub pieces_are : all ≡ unread counted written around
  pub as_many : length around ≡ length s.outer
  pub none_counted : s.group.last ≡ None → counted ≡ once
  pub shallow : depth written + length around ≤ 100
  pub around_shallow : Shallow around

coming_set : (bytes : _) (c : Count) (w : Written) (rs : List Rest) → set bytes ∷ unread c w rs ≡ unread once (one_of bytes c w) rs
coming_set bytes c w [] = refl
coming_set bytes c w (r ∷ rs) = refl

coming_anchor : (p : Pattern) (w : Written) (rs : List Rest) → anchor p ∷ unread once w rs ≡ unread once (anchored p w) rs
coming_anchor p w [] = refl
coming_anchor p w (r ∷ rs) = refl

coming_bar : (w : Written) (rs : List Rest) → bar ∷ unread once w rs ≡ unread once (barred w) rs
coming_bar w [] = refl
coming_bar w (r ∷ rs) = refl

coming_count : (least : ℕ) (most : Option ℕ) (factor : ℕ) (w : Written) (rs : List Rest) →
    count least most factor ∷ unread once w rs ≡ unread (times least most factor) w rs
coming_count least most factor w [] = refl
coming_count least most factor w (r ∷ rs) = refl

coming_group : (w : Written) (r : Rest) (rs : List Rest) → opens ∷ unread once w (r ∷ rs) ≡ unread once (group w r.0 r.1) rs
coming_group w r [] = refl
coming_group w r (q ∷ rs) = refl

stuck : {X : Type 0} (more : List Piece) (to : State) → run_from more None ≡ Some to → X
stuck more to is = let none = none_stays more in absurd (cc)

after_set : (bytes : _) (more : List Piece) (s : State) → Coming more (record { outer = s.outer; group = with_atom s.group (Set bytes) 1 }) →
    Coming (set bytes ∷ more) s
after_set bytes more s so = record {
  counted = once;
  written = one_of bytes so.counted so.written;
  around = so.around;
  pieces_are = ap (λ (x : List Piece). set bytes ∷ x) so.pieces_are ∙ coming_set bytes so.counted so.written so.around;
  as_many = so.as_many;
  none_counted = λ h. refl;
  shallow = so.shallow;
  around_shallow = so.around_shallow;
}

after_anchor : (p : Pattern) (more : List Piece) (s : State) → Coming more (record { outer = s.outer; group = machine.anchored s.group p }) →
    Coming (anchor p ∷ more) s
after_anchor p more s so = record {
  counted = once;
  written = anchored p so.written;
  around = so.around;
  pieces_are = ap (λ (x : List Piece). anchor p ∷ x) (so.pieces_are ∙ ap (λ (c : Count). unread c so.written so.around) (so.none_counted refl))
      ∙ coming_anchor p so.written so.around;
  as_many = so.as_many;
  none_counted = λ h. refl;
  shallow = so.shallow;
  around_shallow = so.around_shallow;
}

after_bar : (more : List Piece) (s : State) → Coming more (record { outer = s.outer; group = machine.barred s.group }) → Coming (bar ∷ more) s
after_bar more s so = record {
  counted = once;
  written = barred so.written;
  around = so.around;
  pieces_are = ap (λ (x : List Piece). bar ∷ x) (so.pieces_are ∙ ap (λ (c : Count). unread c so.written so.around) (so.none_counted refl))
      ∙ coming_bar so.written so.around;
  as_many = so.as_many;
  none_counted = λ h. refl;
  shallow = so.shallow;
  around_shallow = so.around_shallow;
}

after_counted : (least : ℕ) (most : Option ℕ) (factor : ℕ) (more : List Piece) (s t : State) (atom : Atom) → s.group.last ≡ Some atom →
    t.outer ≡ s.outer → t.group.last ≡ None → Coming more t → Coming (count least most factor ∷ more) s
after_counted least most factor more s t atom last outer none so = record {
  counted = times least most factor;
  written = so.written;
  around = so.around;
  pieces_are = ap (λ (x : List Piece). count least most factor ∷ x) (so.pieces_are ∙ ap (λ (c : Count). unread c so.written so.around) (so.none_counted none))
      ∙ coming_count least most factor so.written so.around;
  as_many = so.as_many ∙ ap length outer;
  none_counted = λ h. absurd (cc);
  shallow = so.shallow;
  around_shallow = so.around_shallow;
}

after_open : (more : List Piece) (s : State) → Coming more (opened s.outer s.group) → Coming (opens ∷ more) s
after_open more s so = by_around so.around so.as_many so.shallow so.around_shallow
    (so.pieces_are ∙ ap (λ (c : Count). unread c so.written so.around) (so.none_counted refl))
  where
    by_around : (rs : List Rest) → length rs ≡ length (s.outer ++ s.group ∷ []) → depth so.written + length rs ≤ 100 → Shallow rs →
        more ≡ unread once so.written rs → Coming (opens ∷ more) s
    by_around [] as_many shallow around is =
        let longer : length (s.outer ++ s.group ∷ []) ≡ length s.outer + 1 = length-append s.outer (s.group ∷ []) in absurd (omega arith)
    by_around (r ∷ rs) as_many shallow (low, around) is =
        let longer : length (s.outer ++ s.group ∷ []) ≡ length s.outer + 1 = length-append s.outer (s.group ∷ []) in
        record {
          counted = once;
          written = group so.written r.0 r.1;
          around = rs;
          pieces_are = ap (λ (x : List Piece). opens ∷ x) is ∙ coming_group so.written r rs;
          as_many = omega arith;
          none_counted = λ h. refl;
          shallow = omega arith;
          around_shallow = around;
        }

after_close : (more : List Piece) (s t : State) → length s.outer ≡ suc (length t.outer) → length s.outer ≤ 100 → Coming more t →
    Coming (closes ∷ more) s
after_close more s t one_less within so = record {
  counted = once;
  written = nothing;
  around = (so.counted, so.written) ∷ so.around;
  pieces_are = ap (λ (x : List Piece). closes ∷ x) so.pieces_are;
  as_many = let many = so.as_many in omega arith;
  none_counted = λ h. refl;
  shallow = let many = so.as_many in omega arith;
  around_shallow = (so.shallow, so.around_shallow);
}

pub coming : (all : List Piece) (s to : State) → length s.outer ≤ 100 → run_from all (Some s) ≡ Some to → to.outer ≡ [] → Coming all s
coming [] s to within runs done = record {
  counted = once;
  written = nothing;
  around = [];
  pieces_are = refl;
  as_many = let same : s ≡ to = cc in let none : length s.outer ≡ 0 = ap (λ (x : State). length x.outer) same ∙ ap length done in sym none;
  none_counted = λ h. refl;
  shallow = omega arith;
  around_shallow = tt;
}
coming (set bytes ∷ more) s to within runs done =
    after_set bytes more s (coming more (record { outer = s.outer; group = with_atom s.group (Set bytes) 1 }) to within runs done)
coming (anchor p ∷ more) s to within runs done =
    after_anchor p more s (coming more (record { outer = s.outer; group = machine.anchored s.group p }) to within runs done)
coming (bar ∷ more) s to within runs done =
    after_bar more s (coming more (record { outer = s.outer; group = machine.barred s.group }) to within runs done)
coming (opens ∷ more) s to within runs done =
    by_test (nat_lt (length s.outer) 100) refl runs (λ below from. coming more (opened s.outer s.group) to below from done)
  where
    by_test : (b : Bool) → nat_lt (length s.outer) 100 ≡ b → run_from more (cond b (Some (opened s.outer s.group)) None) ≡ Some to →
        (length (s.outer ++ s.group ∷ []) ≤ 100 → run_from more (Some (opened s.outer s.group)) ≡ Some to → Coming more (opened s.outer s.group)) →
        Coming (opens ∷ more) s
    by_test true is from so =
        let below : length s.outer < 100 = ltb-true (length s.outer) 100 is in
        let longer : length (s.outer ++ s.group ∷ []) ≡ length s.outer + 1 = length-append s.outer (s.group ∷ []) in
        after_open more s (so (omega arith) from)
    by_test false is from so = stuck more to from
coming (closes ∷ more) s to within runs done =
    by_split (split_last s.outer) refl runs
    (λ t fewer from. coming more t to fewer from done)
  where
    by_split : (o : Option (List Group × Group)) → split_last s.outer ≡ o → run_from more (closed_into (machine.closed s.group) o) ≡ Some to →
        ((t : State) → length t.outer ≤ 100 → run_from more (Some t) ≡ Some to → Coming more t) → Coming (closes ∷ more) s
    by_split None is from so = stuck more to from
    by_split (Some (outer, g)) is from so =
        let one_less : length s.outer ≡ suc (length outer) = split_last-length s.outer outer g is in
        let t : State = record { outer = outer; group = with_atom g (machine.closed s.group).pattern (machine.closed s.group).places } in
        after_close more s t one_less within (so t (omega arith) from)
coming (count least most factor ∷ more) s to within runs done =
    by_last s.group.last refl runs (λ t fewer from. coming more t to fewer from done)
  where
    by_last : (o : Option Atom) → s.group.last ≡ o → run_from more (in_group s.outer (counted_with s.group least most factor o)) ≡ Some to →
        ((t : State) → length t.outer ≤ 100 → run_from more (Some t) ≡ Some to → Coming more t) → Coming (count least most factor ∷ more) s
    by_last None is from so = stuck more to from
    by_last (Some atom) is from so =
        let t : State = record {
          outer = s.outer;
          group = record {
            done = s.group.done;
            items = s.group.items ++ Repeat atom.pattern least most ∷ [];
            places = machine.capped (s.group.places + machine.capped (atom.places * factor));
            last = None;
          };
        } in
        after_counted least most factor more s t atom is refl refl (so t within from)

-- what leads from nothing to the end is written, not too deep
pub whole : (all : List Piece) (to : State) → run_from all (Some machine.first) ≡ Some to → to.outer ≡ [] →
    (w : Written) × (pieces w [] ≡ all) × (depth w ≤ 100)
whole all to runs done = by_around so.around so.as_many so.shallow
    (so.pieces_are ∙ ap (λ (c : Count). unread c so.written so.around) (so.none_counted refl))
  where
    so : Coming all machine.first
    so = coming all machine.first to (omega arith) runs done

    by_around : (rs : List Rest) → length rs ≡ 0 → depth so.written + length rs ≤ 100 → all ≡ unread once so.written rs →
        (w : Written) × (pieces w [] ≡ all) × (depth w ≤ 100)
    by_around [] none shallow is = (so.written, sym is, omega arith)
    by_around (r ∷ rs) none shallow is = absurd (omega arith)
