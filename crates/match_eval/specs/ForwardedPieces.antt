-- When one piece of a forwarded header counts (this project's own).
use Rattle.std.specs.Prelude.{ℕ, Bool, List, Option, Some, None, IsTrue}
use Rattle.waf_model.specs.AddressText.{address_of}
use Rattle.waf_model.specs.ForwardedAddress.{trimmed}
use Rattle.waf_model.specs.declared.address.Address.{Address}

-- an address counts where it is one of those that match; what is no address where the fallback is MATCH
abbrev pub IsCounted : (Address → Type 0) → Bool → Option Address → Type 0
IsCounted matches fallback (Some address) = matches address
IsCounted matches fallback None = IsTrue fallback

-- the piece, without the blanks around it, counts
abbrev pub IsPieceCounted : (Address → Type 0) → Bool → List ℕ → Type 0
IsPieceCounted matches fallback piece = IsCounted matches fallback (address_of (trimmed piece))
