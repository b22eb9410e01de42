-- A piece takes a byte of the text at least.
use Rattle.std.proofs.Common.{◌≡◌, ℕ, zero, suc, ◌+◌, ◌-◌, ◌*◌, ◌≤◌, List, [], ◌∷◌, length, Bool, true, false, not, ◌&&◌, ◌||◌, nat_le, ◌==◌, cond, Option, Some, None, subst, arith}
use Rattle.waf_model.specs.PatternClasses.{Span, is_between, kind_spans, escaped, hex_digit, hex_byte, hex_at, followed_by, escape_at, opens_name, single_at, begins_with, tail, range_to, after_single, after_first, and_rest, kind_after, kind_at, kind_or, plain_member_at, member_at, joined, then_more, members_at, set_of}
use Rattle.waf_model.specs.PatternPieces.{Piece, set, anchor, opens, closes, bar, count, class_set, class_at, spans_set, one_span, escape_set_at, atom_at, group_at, is_digit, more_digit, number_at, after_most, after_comma, after_least, without_lazy, count_or_atom_at, piece_at}
use Rattle.waf_model.specs.declared.pattern.Pattern.{Start, Final}

abbrev LeavesIn : {A : Type 0} → ℕ → Option (A × List ℕ) → Type 0
LeavesIn n None = Unit {0}
LeavesIn n (Some found) = length found.1 ≤ n

-- what was found, if anything, leaves so many bytes at most
record Leaves {A : Type 0} (n : ℕ) (o : Option (A × List ℕ)) : Type 0 where
  at_most : LeavesIn n o

leaves_none : {A : Type 0} (n : ℕ) → Leaves {A = A} n None
leaves_none n = record { at_most = tt }

leaves_some : {A : Type 0} (n : ℕ) (x : A) (rest : List ℕ) → length rest ≤ n → Leaves n (Some (x, rest))
leaves_some n x rest within = record { at_most = within }

leaves_if : {A : Type 0} (n : ℕ) (b : Bool) (x y : Option (A × List ℕ)) → Leaves n x → Leaves n y → Leaves n (cond b x y)
leaves_if n true x y one other = one
leaves_if n false x y one other = other

leaves_more : {A : Type 0} (n m : ℕ) (o : Option (A × List ℕ)) → n ≤ m → Leaves n o → Leaves m o
leaves_more n m None below h = leaves_none m
leaves_more n m (Some (x, rest)) below h = let within = h.at_most in leaves_some m x rest (omega (arith, within))

tail_less : (text : List ℕ) → length (tail text) ≤ length text
tail_less [] = omega arith
tail_less (b ∷ rest) = omega arith

lazy_less : (text : List ℕ) → length (without_lazy text) ≤ length text
lazy_less text = by_test (begins_with 63 text)
  where
    by_test : (b : Bool) → length (cond b (tail text) text) ≤ length text
    by_test true = tail_less text
    by_test false = omega arith

leaves_hex_byte : (high low : Option ℕ) (rest : List ℕ) (n : ℕ) → length rest ≤ n → Leaves n (hex_byte high low rest)
leaves_hex_byte (Some high) (Some low) rest n within = leaves_some n (16 * high + low) rest within
leaves_hex_byte (Some high) None rest n within = leaves_none n
leaves_hex_byte None low rest n within = leaves_none n

leaves_hex : (text : List ℕ) → Leaves (length text) (hex_at text)
leaves_hex [] = leaves_none 0
leaves_hex (high ∷ []) = leaves_none 1
leaves_hex (high ∷ low ∷ rest) = leaves_hex_byte (hex_digit high) (hex_digit low) rest (length (high ∷ low ∷ rest)) (omega arith)

leaves_followed : (rest : List ℕ) (o : Option ℕ) (n : ℕ) → length rest ≤ n → Leaves n (followed_by rest o)
leaves_followed rest None n within = leaves_none n
leaves_followed rest (Some b) n within = leaves_some n b rest within

leaves_escape : (text : List ℕ) → Leaves (length text) (escape_at text)
leaves_escape [] = leaves_none 0
leaves_escape (e ∷ rest) =
    leaves_if _ (e == 120) _ _ (leaves_more _ _ _ (omega arith) (leaves_hex rest)) (leaves_followed rest (escaped e) (length (e ∷ rest)) (omega arith))

leaves_single : (text : List ℕ) → Leaves (length text) (single_at text)
leaves_single [] = leaves_none 0
leaves_single (b ∷ rest) =
    leaves_if _ (b == 92) _ _ (leaves_more _ _ _ (omega arith) (leaves_escape rest))
    (leaves_if _ (b == 93 || b == 45 || (b == 91 && opens_name rest)) _ _ (leaves_none _)
    (leaves_if _ (is_between 32 126 b) _ _ (leaves_some _ b rest (omega arith)) (leaves_none _)))

leaves_range : (first n : ℕ) (o : Option (ℕ × List ℕ)) → Leaves n o → Leaves n (range_to first o)
leaves_range first n None h = leaves_none n
leaves_range first n (Some (last, rest)) h = leaves_if n (nat_le first last) _ _ (leaves_some n _ rest h.at_most) (leaves_none n)

leaves_after_single : (first : ℕ) (text : List ℕ) → Leaves (length text) (after_single first text)
leaves_after_single first text =
    leaves_if _ (begins_with 45 text && not (begins_with 93 (tail text))) _ _
    (leaves_more _ _ _ (tail_less text) (leaves_range first _ _ (leaves_single (tail text)))) (leaves_some _ _ text (omega arith))

leaves_after_first : (n : ℕ) (o : Option (ℕ × List ℕ)) → Leaves n o → Leaves n (after_first o)
leaves_after_first n None h = leaves_none n
leaves_after_first n (Some (first, rest)) h = leaves_more _ _ _ h.at_most (leaves_after_single first rest)

leaves_and_rest : (rest : List ℕ) (o : Option (List Span)) (n : ℕ) → length rest ≤ n → Leaves n (and_rest rest o)
leaves_and_rest rest None n within = leaves_none n
leaves_and_rest rest (Some spans) n within = leaves_some n spans rest within

leaves_kind_after : (text : List ℕ) → Leaves (length text) (kind_after text)
leaves_kind_after [] = leaves_none 0
leaves_kind_after (c ∷ rest) = leaves_and_rest rest (kind_spans c) (length (c ∷ rest)) (omega arith)

leaves_kind_or : (n : ℕ) (one other : Option (List Span × List ℕ)) → Leaves n one → Leaves n other → Leaves n (kind_or one other)
leaves_kind_or n None other h more = more
leaves_kind_or n (Some found) other h more = h

leaves_plain : (text : List ℕ) → Leaves (length text) (plain_member_at text)
leaves_plain text =
    leaves_kind_or _ (kind_at text) (after_first (single_at text))
    (leaves_if _ (begins_with 92 text) _ _ (leaves_more _ _ _ (tail_less text) (leaves_kind_after (tail text))) (leaves_none _))
    (leaves_after_first _ _ (leaves_single text))

leaves_member : (is_first : Bool) (text : List ℕ) → Leaves (length text) (member_at is_first text)
leaves_member is_first text =
    leaves_if _ (begins_with 45 text) _ _
    (leaves_if _ (is_first || begins_with 93 (tail text)) _ _ (leaves_some _ _ (tail text) (tail_less text)) (leaves_none _))
    (leaves_plain text)

leaves_joined : (spans : List Span) (n : ℕ) (o : Option (List Span × List ℕ)) → Leaves n o → Leaves n (joined spans o)
leaves_joined spans n None h = leaves_none n
leaves_joined spans n (Some (more, rest)) h = leaves_some n _ rest h.at_most

leaves_then : (more : List ℕ → Option (List Span × List ℕ)) (n : ℕ) (o : Option (List Span × List ℕ)) →
    ((text : List ℕ) → Leaves (length text) (more text)) → Leaves n o → Leaves n (then_more more o)
leaves_then more n None each h = leaves_none n
leaves_then more n (Some (spans, rest)) each h = leaves_joined spans n (more rest) (leaves_more _ _ _ h.at_most (each rest))

leaves_members : (n : ℕ) (is_first : Bool) (text : List ℕ) → Leaves (length text) (members_at n is_first text)
leaves_members zero is_first text = leaves_none _
leaves_members (suc n) is_first text =
    leaves_if _ (begins_with 93 text && not is_first) _ _ (leaves_some _ _ (tail text) (tail_less text))
    (leaves_then (members_at n false) _ (member_at is_first text) (leaves_members n false) (leaves_member is_first text))

leaves_class_set : (fold negated : Bool) (n : ℕ) (o : Option (List Span × List ℕ)) → Leaves n o → Leaves n (class_set fold negated o)
leaves_class_set fold negated n None h = leaves_none n
leaves_class_set fold negated n (Some (spans, rest)) h = leaves_some n _ rest h.at_most

leaves_class : (fold : Bool) (text : List ℕ) → Leaves (length text) (class_at fold text)
leaves_class fold text =
    leaves_if _ (begins_with 94 text) _ _
    (leaves_class_set fold true _ _ (leaves_more _ _ _ (tail_less text) (leaves_members (length (tail text)) true (tail text))))
    (leaves_class_set fold false _ _ (leaves_members (length text) true text))

leaves_one_span : (n : ℕ) (o : Option (ℕ × List ℕ)) → Leaves n o → Leaves n (one_span o)
leaves_one_span n None h = leaves_none n
leaves_one_span n (Some (b, rest)) h = leaves_some n _ rest h.at_most

leaves_spans_set : (fold : Bool) (n : ℕ) (o : Option (List Span × List ℕ)) → Leaves n o → Leaves n (spans_set fold o)
leaves_spans_set fold n None h = leaves_none n
leaves_spans_set fold n (Some (spans, rest)) h = leaves_some n _ rest h.at_most

leaves_escape_set : (fold : Bool) (text : List ℕ) → Leaves (length text) (escape_set_at fold text)
leaves_escape_set fold text =
    leaves_spans_set fold _ (kind_or (kind_after text) (one_span (escape_at text)))
    (leaves_kind_or _ (kind_after text) (one_span (escape_at text)) (leaves_kind_after text) (leaves_one_span _ _ (leaves_escape text)))

leaves_atom : (fold : Bool) (b : ℕ) (rest : List ℕ) → Leaves (length rest) (atom_at fold b rest)
leaves_atom fold b rest =
    leaves_if _ (b == 46) _ _ (leaves_some _ (set (set_of ((0, 9) ∷ (11, 255) ∷ []) fold false)) rest (omega arith))
    (leaves_if _ (b == 91) _ _ (leaves_class fold rest)
    (leaves_if _ (b == 92) _ _ (leaves_escape_set fold rest)
    (leaves_if _ (is_between 32 126 b) _ _ (leaves_some _ (set (set_of ((b, b) ∷ []) fold false)) rest (omega arith)) (leaves_none _))))

leaves_group : (text : List ℕ) → Leaves (length text) (group_at text)
leaves_group text =
    let one = tail_less text in
    let two = tail_less (tail text) in
    leaves_if _ (begins_with 63 text) _ _
    (leaves_if _ (begins_with 58 (tail text)) _ _ (leaves_some _ opens (tail (tail text)) (omega (arith, one, two))) (leaves_none _))
    (leaves_some _ opens text (omega arith))

digit_less : (n : ℕ) (text : List ℕ) → length (more_digit (n, text)).1 ≤ length text
digit_less n [] = omega arith
digit_less n (b ∷ rest) = by_test (is_digit b)
  where
    by_test : (is : Bool) → length (cond {A = ℕ × List ℕ} is (10 * n + (b - 48), rest) (n, b ∷ rest)).1 ≤ length (b ∷ rest)
    by_test true = omega arith
    by_test false = omega arith

leaves_number : (text : List ℕ) → Leaves (length text) (number_at text)
leaves_number [] = leaves_none 0
leaves_number (b ∷ rest) =
    let tens : ℕ × List ℕ = more_digit (b - 48, rest) in
    let one : length tens.1 ≤ length rest = digit_less (b - 48) rest in
    let two : length (more_digit tens).1 ≤ length tens.1 = digit_less tens.0 tens.1 in
    leaves_if _ (is_digit b) _ _
    (leaves_if _ (nat_le (more_digit tens).0 100) _ _ (leaves_some _ (more_digit tens).0 (more_digit tens).1 (omega (arith, one, two))) (leaves_none _))
    (leaves_none _)

-- a count, behind its last sign
leaves_count : (least : ℕ) (most : Option ℕ) (factor : ℕ) (text : List ℕ) →
    Leaves (length text) (Some (count least most factor, without_lazy (tail text)))
leaves_count least most factor text =
    let one = tail_less text in
    let two = lazy_less (tail text) in
    leaves_some _ _ (without_lazy (tail text)) (omega (arith, one, two))

leaves_most : (least n : ℕ) (o : Option (ℕ × List ℕ)) → Leaves n o → Leaves n (after_most least o)
leaves_most least n None h = leaves_none n
leaves_most least n (Some (most, rest)) h =
    leaves_if n (nat_le least most && begins_with 125 rest) _ _ (leaves_more _ _ _ h.at_most (leaves_count least (Some most) most rest)) (leaves_none n)

leaves_comma : (least : ℕ) (text : List ℕ) → Leaves (length text) (after_comma least text)
leaves_comma least text =
    leaves_if _ (begins_with 125 text) _ _ (leaves_count least None (least + 1) text) (leaves_most least _ _ (leaves_number text))

leaves_least : (n : ℕ) (o : Option (ℕ × List ℕ)) → Leaves n o → Leaves n (after_least o)
leaves_least n None h = leaves_none n
leaves_least n (Some (least, rest)) h =
    leaves_more _ _ _ h.at_most
    (leaves_if _ (begins_with 125 rest) _ _ (leaves_count least (Some least) least rest)
    (leaves_if _ (begins_with 44 rest) _ _ (leaves_more _ _ _ (tail_less rest) (leaves_comma least (tail rest))) (leaves_none _)))

leaves_count_or_atom : (fold : Bool) (b : ℕ) (rest : List ℕ) → Leaves (length rest) (count_or_atom_at fold b rest)
leaves_count_or_atom fold b rest =
    leaves_if _ (b == 42) _ _ (leaves_some _ (count 0 None 1) (without_lazy rest) (lazy_less rest))
    (leaves_if _ (b == 43) _ _ (leaves_some _ (count 1 None 1) (without_lazy rest) (lazy_less rest))
    (leaves_if _ (b == 63) _ _ (leaves_some _ (count 0 (Some 1) 1) (without_lazy rest) (lazy_less rest))
    (leaves_if _ (b == 123) _ _ (leaves_least _ _ (leaves_number rest)) (leaves_atom fold b rest))))

leaves_piece : (fold : Bool) (b : ℕ) (rest : List ℕ) → Leaves (length rest) (piece_at fold (b ∷ rest))
leaves_piece fold b rest =
    leaves_if _ (b == 40) _ _ (leaves_group rest)
    (leaves_if _ (b == 41) _ _ (leaves_some _ closes rest (omega arith))
    (leaves_if _ (b == 124) _ _ (leaves_some _ bar rest (omega arith))
    (leaves_if _ (b == 94) _ _ (leaves_some _ (anchor Start) rest (omega arith))
    (leaves_if _ (b == 36) _ _ (leaves_some _ (anchor Final) rest (omega arith)) (leaves_count_or_atom fold b rest)))))

pub piece_less : (fold : Bool) (b : ℕ) (text rest : List ℕ) (piece : Piece) → piece_at fold (b ∷ text) ≡ Some (piece, rest) →
    length rest ≤ length text
piece_less fold b text rest piece found = (subst (Leaves (length text)) found (leaves_piece fold b text)).at_most

pub tail_of_tails_less : (text : List ℕ) → length (tail (tail (tail (tail text)))) ≤ length text
tail_of_tails_less text =
    let one = tail_less text in
    let two = tail_less (tail text) in
    let three = tail_less (tail (tail text)) in
    let four = tail_less (tail (tail (tail text))) in
    omega (arith, one, two, three, four)
