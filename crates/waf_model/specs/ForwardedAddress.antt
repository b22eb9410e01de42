-- Addresses that a header forwards (API type `IPSetForwardedIPConfig`; which pieces of the header are looked at, and when
-- the fallback counts, is this project's own).
use Rattle.std.specs.Prelude.{ℕ, ◌≡◌, ◌-◌, ◌⊎◌, List, [], ◌∷◌, length, map, drop, take, reverse, Any, Bool, ◌||◌, ◌==◌, IsTrue, Option, Some, None}
use Rattle.std.specs.List.{prefix_len}
use Rattle.waf_model.specs.AddressRange.{IsInSome}
use Rattle.waf_model.specs.AddressText.{address_of}
use Rattle.waf_model.specs.Pieces.{cut}
use Rattle.waf_model.specs.Within.{value_of_header}
use Rattle.waf_model.specs.declared.address.Address.{Address}
use Rattle.waf_model.specs.declared.address.Cidr.{Cidr}
use Rattle.waf_model.specs.declared.matching.Forwarded.{Forwarded}
use Rattle.waf_model.specs.declared.matching.ForwardedPosition.{ForwardedPosition}
use Rattle.waf_model.specs.declared.matching.ForwardedPosition.TheVariants as positions
use Rattle.waf_model.specs.declared.request.Request.{Request}

-- a space or a tab
abbrev pub is_blank : ℕ → Bool
is_blank b = (b == 32) || (b == 9)

-- the text without the blanks at its front
abbrev pub without_front : List ℕ → List ℕ
without_front text = drop (prefix_len is_blank text) text

-- the text without the blanks at both ends
abbrev pub trimmed : List ℕ → List ℕ
trimmed text = reverse (without_front (reverse (without_front text)))

-- the pieces of a value between commas
abbrev pub forwarded_pieces : List ℕ → List (List ℕ)
forwarded_pieces value = map trimmed (cut 44 value)

-- the last so many
abbrev pub last_of : {A : Type 0} → ℕ → List A → List A
last_of n all = drop (length all - n) all

-- FIRST looks at the first piece, LAST at the last, ANY at the last ten
abbrev pub looked_at : ForwardedPosition → List (List ℕ) → List (List ℕ)
looked_at positions.First pieces = take 1 pieces
looked_at positions.Last pieces = last_of 1 pieces
looked_at positions.Any pieces = last_of 10 pieces

-- the piece is an address in one of the ranges
abbrev pub IsPieceIn : List Cidr → List ℕ → Type 0
IsPieceIn ranges piece = (address : Address) × (address_of piece ≡ Some address) × IsInSome ranges address

-- a piece that is looked at is in the set; or the fallback is MATCH, and one is no address
abbrev pub ForwardedHolds : List Cidr → Forwarded → Option (List ℕ) → Type 0
ForwardedHolds ranges forwarded None = ⊥
ForwardedHolds ranges forwarded (Some value) =
    Any (IsPieceIn ranges) (looked_at forwarded.position (forwarded_pieces value))
    ⊎ (IsTrue forwarded.fallback × Any (λ piece. address_of piece ≡ None) (looked_at forwarded.position (forwarded_pieces value)))

-- without a forwarded configuration the client's address counts; an absent header doesn't match
abbrev pub AddressHolds : List Cidr → Option Forwarded → Request → Type 0
AddressHolds ranges None request = IsInSome ranges request.address
AddressHolds ranges (Some forwarded) request = ForwardedHolds ranges forwarded (value_of_header request forwarded.header)
