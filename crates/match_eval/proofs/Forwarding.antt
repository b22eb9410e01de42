-- Some piece that is looked at counts just where the forwarded header makes the statement hold.
use Rattle.std.proofs.Common.{◌≡◌, ℕ, ◌-◌, Bool, List, length, map, take, drop, Option, Some, None, inl, inr, refl, sym, ap, ◌∙◌, subst}
use Rattle.std.proofs.lemmas.List.{drop-map, length-map, take-map, take_rest}
use Rattle.request_parts.specs.PieceViews.{texts}
use Rattle.std.specs.Borrow.{Bor}
use Rattle.std.specs.Prelude.{◌⊎◌, ◌↔◌, Any, IsTrue}
use Rattle.waf_model.specs.AddressRange.{IsInSome}
use Rattle.waf_model.specs.AddressText.{address_of}
use Rattle.waf_model.specs.ForwardedAddress.{ForwardedHolds, IsPieceIn, last_of, looked_at, trimmed}
use Rattle.waf_model.specs.Pieces.{cut}
use Rattle.waf_model.specs.declared.address.Address.{Address}
use Rattle.waf_model.specs.declared.address.Cidr.{Cidr}
use Rattle.waf_model.specs.declared.matching.Forwarded.{Forwarded}
use Rattle.waf_model.specs.declared.matching.ForwardedPosition.{ForwardedPosition}
use Rattle.waf_model.specs.declared.matching.ForwardedPosition.TheVariants as positions
use Rattle.match_eval.proofs.SomeOf.{some_mapped}
use Rattle.match_eval.specs.ForwardedPieces.{IsCounted, IsPieceCounted}

-- the last so many of a list, each changed
pub last_map : {X Y : Type 0} (f : X → Y) (n : ℕ) (xs : List X) → last_of n (map f xs) ≡ map f (last_of n xs)
last_map f n xs = ap (λ k. drop (k - n) (map f xs)) (length-map xs f) ∙ drop-map f (length xs - n) xs

-- the pieces without the blanks around them are looked at by the same positions
looked_at_map : (f : List ℕ → List ℕ) (position : ForwardedPosition) (pieces : List (List ℕ)) → looked_at position (map f pieces) ≡ map f (looked_at position pieces)
looked_at_map f positions.First pieces = take-map f 1 pieces
looked_at_map f positions.Last pieces = last_map f 1 pieces
looked_at_map f positions.Any pieces = last_map f 10 pieces

-- an address that counts, or what is no address and counts
counted : (matches : Address → Type 0) (fallback : Bool) (o : Option Address) → IsCounted matches fallback o
    → ((address : Address) × (o ≡ Some address) × matches address) ⊎ (IsTrue fallback × (o ≡ None))
counted matches fallback (Some address) counts = inl (address, refl, counts)
counted matches fallback None counts = inr (counts, refl)

-- what holds of some piece that is looked at, once its blanks are left out, holds of some piece without them
among : (position : ForwardedPosition) (P : List ℕ → Type 0) (pieces : List (List ℕ))
    → Any (λ piece. P (trimmed piece)) (looked_at position pieces) ↔ Any P (looked_at position (map trimmed pieces))
among position P pieces =
    rw (looked_at_map trimmed position pieces) (some_mapped trimmed P (looked_at position pieces))

forwarded_is : (ranges : List Cidr) (forwarded : Forwarded) (value : List ℕ)
    → Any (IsPieceCounted (IsInSome ranges) forwarded.fallback) (looked_at forwarded.position (cut 44 value)) ↔ ForwardedHolds ranges forwarded (Some value)
forwarded_is ranges forwarded value =
    let pieces = cut 44 value in
    let position = forwarded.position in
    let fallback = forwarded.fallback in
    let inside = among position (IsPieceIn ranges) pieces in
    let outside = among position (λ piece. address_of piece ≡ None) pieces in (
      λ some. elim (counted (IsInSome ranges) fallback (address_of (trimmed some.1)) some.4) [
        | inl found ↦ inl (inside.0 (some.0, some.1, some.2, some.3, found))
        | inr none ↦ inr (none.0, outside.0 (some.0, some.1, some.2, some.3, none.1))
      ],
      λ holds. elim holds [
        | inl found ↦
            let some = inside.1 found in
            (some.0, some.1, some.2, some.3, subst (IsCounted (IsInSome ranges) fallback) (sym some.4.1) some.4.2)
        | inr none ↦
            let some = outside.1 none.1 in
            (some.0, some.1, some.2, some.3, subst (IsCounted (IsInSome ranges) fallback) (sym some.4) none.0)
      ],
    )

-- where the texts are those that are looked at, whether some of them counts is whether the header makes the statement hold
pub result_is : (ranges : List Cidr) (forwarded : Forwarded) (value : List ℕ) (tried : List (List ℕ)) (result : Bool)
    → tried ≡ looked_at forwarded.position (cut 44 value)
    → IsTrue result ↔ Any (IsPieceCounted (IsInSome ranges) forwarded.fallback) tried
    → IsTrue result ↔ ForwardedHolds ranges forwarded (Some value)
result_is ranges forwarded value tried result same some =
    let both = forwarded_is ranges forwarded value in
    let counts = IsPieceCounted (IsInSome ranges) forwarded.fallback in (
      λ e. both.0 (subst (Any counts) same (some.0 e)),
      λ h. some.1 (subst (Any counts) (sym same) (both.1 h)),
    )

-- the last so many of a list, from a place on, as texts
pub last_is : (most : ℕ) (pieces : List (Bor (List ℕ))) (start : ℕ) → start ≡ length pieces - most → texts (take (length pieces - start) (drop start pieces)) ≡ last_of most (texts pieces)
last_is most pieces start is =
    ap texts (take_rest pieces start ∙ ap (λ k. drop k pieces) is) ∙ sym (last_map (λ piece. piece.now) most pieces)
