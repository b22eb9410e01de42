-- The members of a class, read one by one.
use Rattle.std.proofs.Common.{◌≡◌, ℕ, zero, suc, ◌<◌, ◌≤◌, List, [], ◌∷◌, ◌++◌, length, Bool, true, false, not, ◌&&◌, Option, Some, None, refl, sym, ap, ◌∙◌, arith}
use Rattle.std.proofs.lemmas.List.{append_assoc, append-nil}
use Rattle.waf_model.specs.PatternPieces.{Span, begins_with, tail, joined, then_more, member_at, members_at}

-- what was read so far and what the rest gives is what the whole gives
pub record Reading (text rest : List ℕ) (is_first : Bool) (spans : List Span) : Type 0 where
  pub fuel : ℕ
  pub enough : length rest ≤ fuel
  pub shorter : length rest ≤ length text
  pub whole : members_at (length text) true text ≡ joined spans (members_at fuel is_first rest)

joined-nil : (o : Option (List Span × List ℕ)) → o ≡ joined [] o
joined-nil None = refl
joined-nil (Some m) = refl

pub reading_begins : (text : List ℕ) → Reading text text true []
reading_begins text = record {
  fuel = length text;
  enough = omega arith;
  shorter = omega arith;
  whole = joined-nil (members_at (length text) true text);
}

joined-joined : (a b : List Span) (o : Option (List Span × List ℕ)) → joined a (joined b o) ≡ joined (a ++ b) o
joined-joined a b None = refl
joined-joined a b (Some m) = ap (λ (x : List Span). Some (x, m.1)) (sym (append_assoc a b m.0))

goes_on : (fuel : ℕ) (rest : List ℕ) (is_first : Bool) → (begins_with 93 rest && not is_first) ≡ false →
    members_at (suc fuel) is_first rest ≡ then_more (members_at fuel false) (member_at is_first rest)
goes_on fuel rest is_first open_still = rw open_still refl

then_none : (more : List ℕ → Option (List Span × List ℕ)) (o : Option (List Span × List ℕ)) → o ≡ None → then_more more o ≡ None
then_none more o is = ap (then_more more) is

-- no member stands there
pub reading_fails : (text rest : List ℕ) (is_first : Bool) (spans : List Span) → Reading text rest is_first spans →
    (begins_with 93 rest && not is_first) ≡ false → member_at is_first rest ≡ None → members_at (length text) true text ≡ None
reading_fails text rest is_first spans so open_still none = so.whole ∙ fails so.fuel
  where
    fails : (fuel : ℕ) → joined spans (members_at fuel is_first rest) ≡ None
    fails zero = refl
    fails (suc fuel) = ap (joined spans) (goes_on fuel rest is_first open_still ∙ then_none (members_at fuel false) (member_at is_first rest) none)

-- one more member
pub reading_moves : (text rest next : List ℕ) (is_first : Bool) (spans more : List Span) → Reading text rest is_first spans →
    (begins_with 93 rest && not is_first) ≡ false → member_at is_first rest ≡ Some (more, next) → length next < length rest →
    Reading text next false (spans ++ more)
reading_moves text rest next is_first spans more so open_still found less = moves so.fuel so.enough so.whole
  where
    moves : (fuel : ℕ) → length rest ≤ fuel → members_at (length text) true text ≡ joined spans (members_at fuel is_first rest) →
        Reading text next false (spans ++ more)
    moves zero enough whole = absurd (omega arith)
    moves (suc fuel) enough whole = record {
      fuel = fuel;
      enough = omega arith;
      shorter = let before = so.shorter in omega arith;
      whole = whole ∙ ap (joined spans) (goes_on fuel rest is_first open_still ∙ ap (then_more (members_at fuel false)) found)
          ∙ joined-joined spans more (members_at fuel false next);
    }

-- the bracket
pub reading_ends : (text rest : List ℕ) (spans : List Span) (is_first : Bool) → Reading text rest is_first spans → is_first ≡ false →
    begins_with 93 rest ≡ true → members_at (length text) true text ≡ Some (spans, tail rest)
reading_ends text [] spans is_first so later closes = absurd (cc)
reading_ends text (b ∷ rest) spans is_first so later closes = ends so.fuel so.enough so.whole
  where
    ends : (fuel : ℕ) → length (b ∷ rest) ≤ fuel → members_at (length text) true text ≡ joined spans (members_at fuel is_first (b ∷ rest)) →
        members_at (length text) true text ≡ Some (spans, rest)
    ends zero enough whole = absurd (omega arith)
    ends (suc fuel) enough whole = whole ∙ rw (closes, later) (ap (λ (x : List Span). Some (x, rest)) (append-nil spans))
