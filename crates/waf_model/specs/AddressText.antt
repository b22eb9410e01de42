-- Which address a text spells, and which range (RFC 3986, 3.2.2, `IPv4address`; RFC 4291, 2.2, forms 1 and 2, and 2.3;
-- API type `IPSet`, `Addresses`). An address is written as `address_text` of RequestText says.
use Rattle.std.specs.Prelude.{ℕ, ◌+◌, ◌*◌, ◌-◌, ◌%◌, ◌^◌, List, [], ◌∷◌, ◌++◌, length, map, replicate, Bool, true, false, ◌&&◌, ◌==◌, nat_le, nat_lt, if◌then◌else◌, IsTrue, Option, Some, None, option_map, option_and_then, refl}
use Rattle.std.specs.Char.{is_digit as is_digit_of}
use Rattle.std.specs.List.{list_all, fold}
use Rattle.std.specs.Str.Parse.{digits_value}
use Rattle.std.proofs.lemmas.Bool.{leb-true}
use Rattle.waf_model.specs.Pieces.{split_once, cut}
use Rattle.waf_model.specs.Prefix.{longest_prefix}
use Rattle.waf_model.specs.declared.address.Address.{Address}
use Rattle.waf_model.specs.declared.address.Address.TheVariants.{V4, V6}
use Rattle.waf_model.specs.declared.address.Cidr.{Cidr}

infixl 10 ◌>>=◌
-- reads on from what is there
abbrev ◌>>=◌ : {A B : Type 0} → Option A → (A → Option B) → Option B
o >>= next = option_and_then next o

-- a digit, and one that isn't 0
abbrev pub is_digit : ℕ → Bool
is_digit b = nat_le 48 b && nat_le b 57

abbrev pub is_first_digit : ℕ → Bool
is_first_digit b = nat_le 49 b && nat_le b 57

-- a number 0 to 255 in decimal digits, without leading zeros
abbrev pub octet_of : List ℕ → Option ℕ
octet_of (a ∷ []) = if is_digit a then Some (a - 48) else None
octet_of (a ∷ b ∷ []) = if is_first_digit a && is_digit b then Some (10 * (a - 48) + (b - 48)) else None
octet_of (a ∷ b ∷ c ∷ []) = if is_first_digit a && is_digit b && is_digit c && nat_le (100 * (a - 48) + 10 * (b - 48) + (c - 48)) 255
    then Some (100 * (a - 48) + 10 * (b - 48) + (c - 48)) else None
octet_of text = None

-- IPv4: four numbers 0 to 255 with `.` between; the first is the most significant byte
unfoldable pub ipv4_of : List ℕ → Option ℕ
ipv4_of text = do
  first ← split_once 46 text
  second ← split_once 46 first.1
  third ← split_once 46 second.1
  a ← octet_of first.0
  b ← octet_of second.0
  c ← octet_of third.0
  d ← octet_of third.1
  Some (16777216 * a + 65536 * b + 256 * c + d)

-- a group of sixteen bits: one to four hexadecimal digits
unfoldable pub group_of : List ℕ → Option ℕ
group_of text = if nat_le 1 (length text) && nat_le (length text) 4 && list_all (λ b. is_digit_of b 16) text
    then Some (digits_value 16 text) else None

-- what every one is, where each is there
abbrev pub every : List (Option ℕ) → Option (List ℕ)
every [] = Some []
every (None ∷ rest) = None
every (Some n ∷ rest) = option_map (λ ns. n ∷ ns) (every rest)

-- groups with `:` between; the empty text has none
unfoldable pub groups_of : List ℕ → Option (List ℕ)
groups_of [] = Some []
groups_of (b ∷ bytes) = every (map group_of (cut 58 (b ∷ bytes)))

-- a byte more before what stands first
abbrev pub with_byte : ℕ → List ℕ × List ℕ → List ℕ × List ℕ
with_byte b parts = (b ∷ parts.0, parts.1)

-- what stands before the first `::` and what stands after it, or none where there is no `::`
unfoldable pub around_double_colon : List ℕ → Option (List ℕ × List ℕ)
around_double_colon [] = None
around_double_colon (a ∷ []) = None
around_double_colon (a ∷ b ∷ rest) = if a == 58 && b == 58 then Some ([], rest)
    else option_map (with_byte a) (around_double_colon (b ∷ rest))

-- all eight groups
abbrev pub all_eight : List ℕ → Option (List ℕ)
all_eight groups = if length groups == 8 then Some groups else None

-- fewer than eight groups with as many groups of zeros between as are missing
abbrev pub filled : List ℕ → List ℕ → Option (List ℕ)
filled head tail = if nat_lt (length head + length tail) 8
    then Some (head ++ replicate (8 - (length head + length tail)) 0 ++ tail) else None

-- the eight groups, by what stands around the first `::`
abbrev pub eight_around : List ℕ → Option (List ℕ × List ℕ) → Option (List ℕ)
eight_around text None = groups_of text >>= all_eight
eight_around text (Some parts) = groups_of parts.0 >>= λ head. groups_of parts.1 >>= λ tail. filled head tail

-- the eight groups of an IPv6 address, of which `::` may once stand for one or more groups of zeros: a second `::`
-- leaves an empty group
unfoldable pub eight_groups_of : List ℕ → Option (List ℕ)
eight_groups_of text = eight_around text (around_double_colon text)

-- IPv6: the number whose most significant bits are the first group
unfoldable pub ipv6_of : List ℕ → Option ℕ
ipv6_of text = option_map (fold (λ n group. 65536 * n + group) 0) (eight_groups_of text)

-- the address that a text spells, or none; no text spells one of each version
unfoldable pub address_of : List ℕ → Option Address
address_of text = elim (ipv4_of text) [ Some n ↦ Some (V4 n) | None ↦ option_map V6 (ipv6_of text) ]

-- the address that a text spells, where it is of this version
abbrev pub version_of : Bool → List ℕ → Option Address
version_of false text = option_map V4 (ipv4_of text)
version_of true text = option_map V6 (ipv6_of text)

-- the address with 0 for every bit after the first so many
abbrev pub without_rest : ℕ → Address → Address
without_rest bits (V4 n) = V4 (n - n % 2 ^ (32 - bits))
without_rest bits (V6 n) = V6 (n - n % 2 ^ (128 - bits))

-- what a passed test makes, or none
abbrev pub checked : {A : Type 0} (test : Bool) → (IsTrue test → A) → Option A
checked true make = Some (make refl)
checked false make = None

-- the range of the addresses that begin with these bits, where they are as many as its version has
abbrev pub range_with : ℕ → Address → Option Cidr
range_with bits base = checked (nat_le bits (longest_prefix base)) λ within. record { base = base; bits = bits; in_range = leb-true _ _ within }

-- the range of an address with its bits after the prefix set to 0; a prefix has 1 to 32 or 1 to 128 bits
abbrev pub range_from : Address → ℕ → Option Cidr
range_from base bits = if nat_le 1 bits then range_with bits (without_rest bits base) else None

-- the range of this version that a text spells: an address, `/` and a number without leading zeros, or an address
-- alone, which is a range of all its bits
unfoldable pub range_of : Bool → List ℕ → Option Cidr
range_of v6 text = elim (split_once 47 text) [
  | None ↦ version_of v6 text >>= λ base. range_from base (longest_prefix base)
  | Some parts ↦ version_of v6 parts.0 >>= λ base. octet_of parts.1 >>= λ bits. range_from base bits
]
