-- Why no sum of costs overflows (this project's own).
use Rattle.std.specs.Prelude.{ℕ, ◌*◌, ◌^◌, ◌≤◌}
use Rattle.waf_model.specs.declared.outcome.Capacity.{Capacity}

-- So many statements may cost that: each at most 2 ^ 37 units, which are more than 2 and 30 times 2 ^ 32, and one unknown.
pub record IsWithin (cost : Capacity) (count : ℕ) : Type 0 where
  pub known : cost.known ≤ 2 ^ 37 * count
  pub unknown : cost.unknown ≤ count
