-- A range is the same whatever shows that its prefix fits.
use Rattle.std.proofs.Common.{◌≡◌, ℕ, ◌≤◌, Bool, true, false, Some, ap, subst}
use Rattle.std.proofs.Props.{props}
use Rattle.std.proofs.lemmas.Bool.{le-leb, leb-true}
use Rattle.std.specs.Prelude.{IsTrue, nat_le}
use Rattle.waf_model.specs.AddressText.{checked, range_with}
use Rattle.waf_model.specs.Prefix.{longest_prefix}
use Rattle.waf_model.specs.declared.address.Address.{Address}
use Rattle.waf_model.specs.declared.address.Cidr.{Cidr}

test_is_prop : (test : Bool) → IsProp (IsTrue test)
test_is_prop test = hlevel props

within_is_prop : (m n : ℕ) → IsProp (m ≤ n)
within_is_prop m n = hlevel props

-- a test that passes makes the value, by any proof of it
checked_passes : {A : Type 0} (test : Bool) (make : IsTrue test → A) (passed : IsTrue test) → checked test make ≡ Some (make passed)
checked_passes true make passed = ap (λ p. Some (make p)) (test_is_prop true _ passed)
checked_passes false make passed = cc

range : (base : Address) (bits : ℕ) → bits ≤ longest_prefix base → Cidr
range base bits within = record { base = base; bits = bits; in_range = within }

range_is_at : (base : Address) (bits : ℕ) (within : bits ≤ longest_prefix base) → range_with bits base ≡ Some (range base bits within)
unfolding range
range_is_at base bits within =
    let passed : IsTrue (nat_le bits (longest_prefix base)) = le-leb _ _ within in
    subst (λ (w : bits ≤ longest_prefix base). range_with bits base ≡ Some (range base bits w)) (within_is_prop bits (longest_prefix base) (leb-true bits (longest_prefix base) passed) within)
    (checked_passes (nat_le bits (longest_prefix base)) (λ w. range base bits (leb-true bits (longest_prefix base) w)) passed)

pub range_is : (given base : Address) (bits : ℕ) → given ≡ base → (within : bits ≤ longest_prefix given) → range_with bits base ≡ Some (record { base = given; bits = bits; in_range = within })
unfolding range
range_is given base bits same within = subst (λ (b : Address). range_with bits b ≡ Some (range given bits within)) same (range_is_at given bits within)
