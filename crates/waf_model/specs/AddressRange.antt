-- Which addresses are in a range (RFC 4632, 3.1; RFC 4291, 2.3).
use Rattle.std.specs.Prelude.{ℕ, ◌≡◌, ◌-◌, ◌/◌, ◌^◌, List, Any}
use Rattle.waf_model.specs.declared.address.Address.{Address}
use Rattle.waf_model.specs.declared.address.Address.TheVariants.{V4, V6}
use Rattle.waf_model.specs.declared.address.Cidr.{Cidr}

-- two addresses of one version with the same first bits
abbrev pub BeginAlike : ℕ → Address → Address → Type 0
BeginAlike bits (V4 a) (V4 b) = a / 2 ^ (32 - bits) ≡ b / 2 ^ (32 - bits)
BeginAlike bits (V6 a) (V6 b) = a / 2 ^ (128 - bits) ≡ b / 2 ^ (128 - bits)
BeginAlike bits a b = ⊥

-- the address has the version of the range's base and agrees with it in the range's first bits
abbrev pub IsInRange : Cidr → Address → Type 0
IsInRange range address = BeginAlike range.bits range.base address

-- some range of the list has the address
abbrev pub IsInSome : List Cidr → Address → Type 0
IsInSome ranges address = Any (λ range. IsInRange range address) ranges
