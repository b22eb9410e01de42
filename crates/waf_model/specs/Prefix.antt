-- How long a prefix of an address may be.
use Rattle.std.specs.Prelude.{ℕ}
use Rattle.waf_model.specs.declared.address.Address.{Address}
use Rattle.waf_model.specs.declared.address.Address.TheVariants.{V4, V6}

-- the bits of an address of that version (RFC 791, RFC 4291)
abbrev pub longest_prefix : Address → ℕ
longest_prefix (V4 n) = 32
longest_prefix (V6 n) = 128
