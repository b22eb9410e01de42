-- An address that is written is read as that address.
use Rattle.std.proofs.Common.{◌≡◌, ℕ, zero, suc, ◌+◌, ◌*◌, ◌/◌, ◌%◌, ◌^◌, ◌<◌, ◌≤◌, Bool, true, false, cond, ◌&&◌, not, List, [], ◌∷◌, ◌++◌, length, map, take, drop, Option, Some, None, option_map, refl, sym, ap, ap₂, ◌∙◌, subst, arith, inl, inr, append_assoc, length-append, append-nil, eqb, eq-eqb, ltb, lt-ltb, true≢false}
use Rattle.std.proofs.Math.Nat.{div-div-eq-div-mul}
use Rattle.std.proofs.Math.Seq.{take-append_seam, drop-append-add}
use Rattle.std.proofs.lemmas.Bool.{and_parts, cases_eq, eqb-true, le-ltb}
use Rattle.std.proofs.lemmas.Fmt.{digits_is_IsNumeral}
use Rattle.std.specs.Fmt.{decimal, digits, digits_onto, digit_glyph}
use Rattle.std.specs.List.{fold, join_with_byte, position_or_len}
use Rattle.std.specs.Net.Grammar.{IsGroup, IsGroupsAfter}
use Rattle.std.specs.Prelude.{◌==◌, if◌then◌else◌}
use Rattle.waf_model.specs.AddressText.{address_of, ipv4_of, ipv6_of, octet_of}
use Rattle.waf_model.specs.Pieces.{split_once}
use Rattle.waf_model.specs.RequestText.{address_text}
use Rattle.waf_model.specs.Within.{IsAddress}
use Rattle.waf_model.specs.declared.address.Address.{Address}
use Rattle.waf_model.specs.declared.address.Address.TheVariants.{V4, V6}
use Rattle.ip_text.proofs.EightGroups.{eight_from}
use Rattle.ip_text.proofs.Groups.{has, no_dot_after, or_false}

-- ---- cutting at a dot

place_behind : (front rest : List ℕ) → has 46 front ≡ false → position_or_len (λ b. b == 46) (front ++ 46 ∷ rest) ≡ length front
place_behind [] rest h = refl
place_behind (b ∷ front) rest h =
    let (first, later) = or_false (eqb b 46) (has 46 front) h in
    let more : 1 + length front ≡ suc (length front) = omega arith in
    ap (λ t. cond (not t) (1 + position_or_len (λ c. c == 46) (front ++ 46 ∷ rest)) 0) first ∙ ap (λ n. 1 + n) (place_behind front rest later) ∙ more

no_place : (text : List ℕ) → has 46 text ≡ false → position_or_len (λ b. b == 46) text ≡ length text
no_place [] h = refl
no_place (b ∷ text) h =
    let (first, later) = or_false (eqb b 46) (has 46 text) h in
    let more : 1 + length text ≡ suc (length text) = omega arith in
    ap (λ t. cond (not t) (1 + position_or_len (λ c. c == 46) text) 0) first ∙ ap (λ n. 1 + n) (no_place text later) ∙ more

abbrev cut_at : List ℕ → ℕ → Option (List ℕ × List ℕ)
cut_at text n = if ltb n (length text) then Some (take n text, drop (n + 1) text) else None

cut_behind : (front rest : List ℕ) → has 46 front ≡ false → split_once 46 (front ++ 46 ∷ rest) ≡ Some (front, rest)
cut_behind front rest h =
    let within : ltb (length front) (length (front ++ 46 ∷ rest)) ≡ true = lt-ltb (length front) (length (front ++ 46 ∷ rest)) (omega (arith, length-append front (46 ∷ rest))) in
    ap (cut_at (front ++ 46 ∷ rest)) (place_behind front rest h)
    ∙ ap (λ t. if t then Some (take (length front) (front ++ 46 ∷ rest), drop (length front + 1) (front ++ 46 ∷ rest)) else None) within
    ∙ ap (λ t. Some (t, drop (length front + 1) (front ++ 46 ∷ rest))) (take-append_seam front (46 ∷ rest))
    ∙ ap (λ t. Some (front, t)) (drop-append-add front (46 ∷ rest) 1)

no_cut : (text : List ℕ) → has 46 text ≡ false → split_once 46 text ≡ None
no_cut text h =
    let past : ltb (length text) (length text) ≡ false = le-ltb (length text) (length text) (omega arith) in
    ap (cut_at text) (no_place text h) ∙ ap (λ t. if t then Some (take (length text) text, drop (length text + 1) text) else None) past

-- ---- IPv4

abbrev is_octet : ℕ → Option ℕ → Bool
is_octet n None = false
is_octet n (Some m) = m == n

-- each number below this one is read as an octet, and has digits alone
abbrev octets_below : ℕ → Bool
octets_below zero = true
octets_below (suc n) = (is_octet n (octet_of (decimal n)) && not (has 46 (decimal n))) && octets_below n

octet_is : (n : ℕ) (o : Option ℕ) → is_octet n o ≡ true → o ≡ Some n
octet_is n None e = absurd (true≢false (sym e))
octet_is n (Some m) e = ap (λ k. Some k) (eqb-true m n e)

not_is : (b : Bool) → not b ≡ true → b ≡ false
not_is true e = absurd (true≢false (sym e))
not_is false e = refl

octets : octets_below 256 ≡ true
unfolding digits
octets = refl

octet_below : (n : ℕ) → octets_below n ≡ true → (m : ℕ) → m < n → (octet_of (decimal m) ≡ Some m) × (has 46 (decimal m) ≡ false)
octet_below zero e m h = absurd (omega arith)
octet_below (suc n) e m h =
    let front = is_octet n (octet_of (decimal n)) && not (has 46 (decimal n)) in
    let p = and_parts front (octets_below n) e in
    let q = and_parts (is_octet n (octet_of (decimal n))) (not (has 46 (decimal n))) p.0 in
    elim (cases_eq m n) [
      | inl same ↦ subst (λ (k : ℕ). (octet_of (decimal k) ≡ Some k) × (has 46 (decimal k) ≡ false)) (sym same) (octet_is n (octet_of (decimal n)) q.0, not_is (has 46 (decimal n)) q.1)
      | inr other ↦ octet_below n p.1 m (omega arith)
    ]

ipv4_reads : (a b c d : ℕ) → a < 256 → b < 256 → c < 256 → d < 256
    → ipv4_of (decimal a ++ 46 ∷ (decimal b ++ 46 ∷ (decimal c ++ 46 ∷ decimal d))) ≡ Some (16777216 * a + 65536 * b + 256 * c + d)
unfolding ipv4_of
ipv4_reads a b c d la lb lc ld =
    let oa = octet_below 256 octets a la in
    let ob = octet_below 256 octets b lb in
    let oc = octet_below 256 octets c lc in
    let od = octet_below 256 octets d ld in
    let first = cut_behind (decimal a) (decimal b ++ 46 ∷ (decimal c ++ 46 ∷ decimal d)) oa.1 in
    let second = cut_behind (decimal b) (decimal c ++ 46 ∷ decimal d) ob.1 in
    let third = cut_behind (decimal c) (decimal d) oc.1 in
    rw (first, second, third, oa.0, ob.0, oc.0, od.0) refl

ipv4_none : (text : List ℕ) → has 46 text ≡ false → ipv4_of text ≡ None
unfolding ipv4_of
ipv4_none text h = rw (no_cut text h) refl

-- ---- IPv6

hex : ℕ → List ℕ
hex n = digits 16 false n

-- one digit more in front
longer : (k n : ℕ) (acc : List ℕ) (m : ℕ) → ((front : List ℕ) → length (digits_onto k 16 false (n / 16) front) ≤ length front + suc m)
    → length (digits_onto (suc k) 16 false n acc) ≤ length acc + suc (suc m)
longer k n acc m rest = by_test (n / 16 == 0)
  where
    by_test : (t : Bool) → length (if t then digit_glyph false (n % 16) ∷ acc else digits_onto k 16 false (n / 16) (digit_glyph false (n % 16) ∷ acc)) ≤ length acc + suc (suc m)
    by_test true = omega arith
    by_test false = omega (arith, rest (digit_glyph false (n % 16) ∷ acc))

one_digit : (k n : ℕ) (acc : List ℕ) → n < 16 → length (digits_onto (suc k) 16 false n acc) ≤ length acc + 1
one_digit k n acc h = let last : (n / 16 == 0) ≡ true = eq-eqb (n / 16) 0 (omega arith) in rw last (omega arith)

four_digits : (n : ℕ) → n < 65536 → length (hex n) ≤ 4
unfolding hex digits
four_digits n h = longer 63 n [] 2 (λ a. longer 62 (n / 16) a 1 (λ b. longer 61 (n / 16 / 16) b 0 (λ c. one_digit 60 (n / 16 / 16 / 16) c (omega arith))))

hex_group : (n : ℕ) → n < 65536 → IsGroup (hex n) n
unfolding hex
hex_group n h = (digits_is_IsNumeral 16 false (omega arith) (omega arith) n (omega arith), four_digits n h)

abbrev AreGroups : List ℕ → Type 0
AreGroups [] = Unit {0}
AreGroups (n ∷ ns) = (n < 65536) × AreGroups ns

-- groups with colons between
groups_after : (ipv4 : Bool) (lead : List ℕ) (n : ℕ) (ns : List ℕ) → n < 65536 → AreGroups ns → IsGroupsAfter ipv4 lead (lead ++ join_with_byte 58 (map hex (n ∷ ns))) (n ∷ ns)
groups_after ipv4 lead n [] h all = inl (hex n, [], sym (append-nil (lead ++ hex n)), hex_group n h, refl)
groups_after ipv4 lead n (m ∷ ns) h all =
    let rest = join_with_byte 58 (map hex (m ∷ ns)) in
    inl (hex n, 58 ∷ rest, sym (append_assoc lead (hex n) (58 ∷ rest)), hex_group n h, groups_after ipv4 (58 ∷ []) m ns all.0 all.1)

group_at : ℕ → ℕ → ℕ
group_at n place = n / 2 ^ (16 * place) % 65536

places : List ℕ
places = 6 ∷ 5 ∷ 4 ∷ 3 ∷ 2 ∷ 1 ∷ 0 ∷ []

small : (n place : ℕ) → group_at n place < 65536
unfolding group_at
small n place = omega arith

segments : ℕ → List ℕ
segments n = map (group_at n) places

shown_groups : (n : ℕ) → address_text (V6 n) ≡ join_with_byte 58 (map hex (group_at n 7 ∷ segments n))
unfolding hex group_at segments places
shown_groups n = refl

are_groups : (n : ℕ) → AreGroups (segments n)
unfolding segments places
are_groups n = (small n 6, (small n 5, (small n 4, (small n 3, (small n 2, (small n 1, (small n 0, tt)))))))

-- the number again
next_group : (n m : ℕ) → m ≡ n / 65536 → 65536 * m + n % 65536 ≡ n
next_group n m is = omega arith

-- cut off at a place, the number is what is cut off at the next place, and a group
cut_off : (n place next : ℕ) → 2 ^ (16 * next) ≡ 2 ^ (16 * place) * 65536 → n / 2 ^ (16 * next) ≡ n / 2 ^ (16 * place) / 65536
cut_off n place next is = ap (λ d. n / d) is ∙ sym (div-div-eq-div-mul n (2 ^ (16 * place)) 65536)

joined_at : (n place next m : ℕ) → 2 ^ (16 * next) ≡ 2 ^ (16 * place) * 65536 → m ≡ n / 2 ^ (16 * next) → 65536 * m + group_at n place ≡ n / 2 ^ (16 * place)
unfolding group_at
joined_at n place next m powers is = next_group (n / 2 ^ (16 * place)) m (is ∙ cut_off n place next powers)

top_group : (n : ℕ) → n < 2 ^ 128 → 65536 * 0 + group_at n 7 ≡ n / 2 ^ (16 * 7)
unfolding group_at
top_group n h = omega arith

whole : (n : ℕ) → n < 2 ^ 128 → fold (λ m group. 65536 * m + group) 0 (group_at n 7 ∷ segments n) ≡ n
unfolding segments places
whole n h =
    let seven : 65536 * 0 + group_at n 7 ≡ n / 2 ^ (16 * 7) = top_group n h in
    joined_at n 0 1 _ refl (joined_at n 1 2 _ refl (joined_at n 2 3 _ refl (joined_at n 3 4 _ refl (joined_at n 4 5 _ refl (joined_at n 5 6 _ refl (joined_at n 6 7 _ refl seven)))))) ∙ omega arith

ipv6_reads : (n : ℕ) → n < 2 ^ 128 → (ipv4_of (address_text (V6 n)) ≡ None) × (ipv6_of (address_text (V6 n)) ≡ Some n)
unfolding ipv6_of segments places
ipv6_reads n h =
    let text = join_with_byte 58 (map hex (group_at n 7 ∷ segments n)) in
    let undotted : has 46 text ≡ false = no_dot_after (group_at n 7 ∷ segments n) [] text refl (groups_after false [] (group_at n 7) (segments n) (small n 7) (are_groups n)) in
    let eight = eight_from text (group_at n 7 ∷ segments n) (inl (groups_after true [] (group_at n 7) (segments n) (small n 7) (are_groups n), refl)) undotted in (
      ap ipv4_of (shown_groups n) ∙ ipv4_none text undotted,
      ap ipv6_of (shown_groups n) ∙ ap (option_map (fold (λ m group. 65536 * m + group) 0)) eight ∙ ap (λ m. Some m) (whole n h),
    )

-- ---- both

address_from : Option ℕ → Option ℕ → Option Address
address_from (Some n) six = Some (V4 n)
address_from None six = option_map V6 six

from_both : (text : List ℕ) → address_of text ≡ address_from (ipv4_of text) (ipv6_of text)
unfolding address_of address_from
from_both text = by_four (ipv4_of text)
  where
    by_four : (four : Option ℕ) → elim four as (λ x. Option Address) [ None ↦ option_map V6 (ipv6_of text) | Some n ↦ Some (V4 n) ] ≡ address_from four (ipv6_of text)
    by_four None = refl
    by_four (Some n) = refl

four_parts : (n : ℕ) → n < 2 ^ 32 → 16777216 * (n / 16777216) + 65536 * (n / 65536 % 256) + 256 * (n / 256 % 256) + n % 256 ≡ n
four_parts n h = omega arith

pub address_reads : (address : Address) → IsAddress address → address_of (address_text address) ≡ Some address
unfolding address_from
address_reads (V4 n) h =
    let four = ipv4_reads (n / 16777216) (n / 65536 % 256) (n / 256 % 256) (n % 256) (omega arith) (omega arith) (omega arith) (omega arith) ∙ ap (λ m. Some m) (four_parts n h) in
    from_both (address_text (V4 n)) ∙ ap (λ o. address_from o (ipv6_of (address_text (V4 n)))) four
address_reads (V6 n) h =
    let (none, six) = ipv6_reads n h in
    from_both (address_text (V6 n)) ∙ ap₂ address_from none six
