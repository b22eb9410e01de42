-- Whether an address test holds of a request, as a truth value: `AddressHolds` of `ForwardedAddress` (this project's own).
use Rattle.std.specs.Prelude.{ℕ, ◌-◌, ◌/◌, ◌^◌, List, Bool, false, ◌&&◌, ◌||◌, ◌==◌, is_none, Option, Some, None}
use Rattle.std.specs.List.{list_any}
use Rattle.std.specs.Option.{option_map_or}
use Rattle.waf_model.specs.AddressText.{address_of}
use Rattle.waf_model.specs.ForwardedAddress.{forwarded_pieces, looked_at}
use Rattle.waf_model.specs.Within.{value_of_header}
use Rattle.waf_model.specs.declared.address.Address.{Address}
use Rattle.waf_model.specs.declared.address.Address.TheVariants.{V4, V6}
use Rattle.waf_model.specs.declared.address.Cidr.{Cidr}
use Rattle.waf_model.specs.declared.matching.Forwarded.{Forwarded}
use Rattle.waf_model.specs.declared.request.Request.{Request}

-- two addresses of one version with the same first bits
abbrev pub begin_alike : ℕ → Address → Address → Bool
begin_alike bits (V4 a) (V4 b) = a / 2 ^ (32 - bits) == b / 2 ^ (32 - bits)
begin_alike bits (V6 a) (V6 b) = a / 2 ^ (128 - bits) == b / 2 ^ (128 - bits)
begin_alike bits a b = false

-- some range of the list has the address
abbrev pub is_in_some : List Cidr → Address → Bool
is_in_some ranges address = list_any (λ range. begin_alike range.bits range.base address) ranges

-- the piece is an address in one of the ranges
abbrev pub is_piece_in : List Cidr → List ℕ → Bool
is_piece_in ranges piece = option_map_or (is_in_some ranges) (address_of piece) false

-- of the pieces that are looked at, one is in the set; or the fallback is MATCH, and one is no address
abbrev pub pieces_hold : List Cidr → Bool → List (List ℕ) → Bool
pieces_hold ranges fallback pieces = list_any (is_piece_in ranges) pieces || (fallback && list_any (λ piece. is_none (address_of piece)) pieces)

-- the same of the value of the header, which must be there
abbrev pub forwarded_holds : List Cidr → Forwarded → Option (List ℕ) → Bool
forwarded_holds ranges forwarded value =
    option_map_or (λ text. pieces_hold ranges forwarded.fallback (looked_at forwarded.position (forwarded_pieces text))) value false

-- without a forwarded configuration the client's address counts
abbrev pub address_holds : List Cidr → Option Forwarded → Request → Bool
address_holds ranges None request = is_in_some ranges request.address
address_holds ranges (Some forwarded) request = forwarded_holds ranges forwarded (value_of_header request forwarded.header)
