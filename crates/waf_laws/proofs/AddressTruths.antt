-- An address test holds of a request exactly where its truth value is true.
use Rattle.std.proofs.Common.{◌≡◌, ℕ, ◌-◌, ◌⊎◌, ◌↔◌, List, Bool, false, ◌&&◌, IsTrue, Option, Some, None, refl, sym, subst}
use Rattle.std.proofs.lemmas.Bool.{false≢true}
use Rattle.std.specs.Prelude.{◌/◌, ◌^◌, Any, is_none}
use Rattle.std.specs.List.{list_any}
use Rattle.std.specs.Option.{option_map_or}
use Rattle.waf_laws.proofs.Truths.{both_decided, either_decided, same_decided, some_decided}
use Rattle.waf_model.specs.AddressRange.{BeginAlike, IsInRange, IsInSome}
use Rattle.waf_model.specs.AddressText.{address_of}
use Rattle.waf_model.specs.AddressTruth.{begin_alike, is_in_some, is_piece_in, pieces_hold, forwarded_holds, address_holds}
use Rattle.waf_model.specs.ForwardedAddress.{AddressHolds, ForwardedHolds, IsPieceIn, forwarded_pieces, looked_at}
use Rattle.waf_model.specs.Within.{value_of_header}
use Rattle.waf_model.specs.declared.address.Address.{Address}
use Rattle.waf_model.specs.declared.address.Address.TheVariants.{V4, V6}
use Rattle.waf_model.specs.declared.address.Cidr.{Cidr}
use Rattle.waf_model.specs.declared.matching.Forwarded.{Forwarded}
use Rattle.waf_model.specs.declared.request.Request.{Request}

alike_decided : (bits : ℕ) (a b : Address) → IsTrue (begin_alike bits a b) ↔ BeginAlike bits a b
alike_decided bits (V4 a) (V4 b) = same_decided (a / 2 ^ (32 - bits)) (b / 2 ^ (32 - bits))
alike_decided bits (V6 a) (V6 b) = same_decided (a / 2 ^ (128 - bits)) (b / 2 ^ (128 - bits))
alike_decided bits (V4 a) (V6 b) = (λ h. absurd (false≢true h), λ h. absurd h)
alike_decided bits (V6 a) (V4 b) = (λ h. absurd (false≢true h), λ h. absurd h)

in_some_decided : (ranges : List Cidr) (address : Address) → IsTrue (is_in_some ranges address) ↔ IsInSome ranges address
in_some_decided ranges address =
    some_decided (λ range. begin_alike range.bits range.base address) (λ range. IsInRange range address) (λ range. alike_decided range.bits range.base address) ranges

piece_decided : (ranges : List Cidr) (piece : List ℕ) → IsTrue (is_piece_in ranges piece) ↔ IsPieceIn ranges piece
piece_decided ranges piece = by (address_of piece)
  where
    by : (o : Option Address) → IsTrue (option_map_or (is_in_some ranges) o false) ↔ ((address : Address) × (o ≡ Some address) × IsInSome ranges address)
    by None = (λ h. absurd (false≢true h), λ (address, is, inside). cc)
    by (Some x) =
        let some = in_some_decided ranges x in
        (λ h. (x, refl, some.0 h), λ (address, is, inside). let same : x ≡ address = cc in some.1 (subst (IsInSome ranges) (sym same) inside))

none_decided : (o : Option Address) → IsTrue (is_none o) ↔ (o ≡ None)
none_decided None = (λ h. refl, λ h. refl)
none_decided (Some x) = (λ h. absurd (false≢true h), λ h. cc)

pieces_decided : (ranges : List Cidr) (fallback : Bool) (pieces : List (List ℕ))
    → IsTrue (pieces_hold ranges fallback pieces) ↔ (Any (IsPieceIn ranges) pieces ⊎ (IsTrue fallback × Any (λ piece. address_of piece ≡ None) pieces))
pieces_decided ranges fallback pieces =
    either_decided (list_any (is_piece_in ranges) pieces) (fallback && list_any (λ piece. is_none (address_of piece)) pieces)
    (Any (IsPieceIn ranges) pieces) (IsTrue fallback × Any (λ piece. address_of piece ≡ None) pieces)
    (some_decided (is_piece_in ranges) (IsPieceIn ranges) (piece_decided ranges) pieces)
    (both_decided fallback (list_any (λ piece. is_none (address_of piece)) pieces) (IsTrue fallback) (Any (λ piece. address_of piece ≡ None) pieces) (λ h. h, λ h. h)
    (some_decided (λ piece. is_none (address_of piece)) (λ piece. address_of piece ≡ None) (λ piece. none_decided (address_of piece)) pieces))

forwarded_decided : (ranges : List Cidr) (forwarded : Forwarded) (value : Option (List ℕ)) → IsTrue (forwarded_holds ranges forwarded value) ↔ ForwardedHolds ranges forwarded value
forwarded_decided ranges forwarded None = (λ h. absurd (false≢true h), λ h. absurd h)
forwarded_decided ranges forwarded (Some text) = pieces_decided ranges forwarded.fallback (looked_at forwarded.position (forwarded_pieces text))

pub address_decided : (ranges : List Cidr) (forwarded : Option Forwarded) (request : Request) → IsTrue (address_holds ranges forwarded request) ↔ AddressHolds ranges forwarded request
address_decided ranges None request = in_some_decided ranges request.address
address_decided ranges (Some forwarded) request = forwarded_decided ranges forwarded (value_of_header request forwarded.header)
