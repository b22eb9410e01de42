-- How a call counts nodes over members of a kind of which some were counted before (this project's own).
use Rattle.std.specs.Prelude.{◌+◌, ◌-◌, ◌≡◌, ◌≤◌}
use Rattle.waf_base.specs.Members.{AtLeast}
use Rattle.waf_base.specs.declared.meter.Meter.{Meter}

-- of the kind, and not counted before
pub record Unspent {A : Type 0} (IsKind Before : A → Type 0) (a : A) : Type 0 where
  pub of_kind : IsKind a
  pub unspent : Before a → ⊥

-- of the kind, counted after the call and not before it
pub record NewlySpent {A : Type 0} (IsKind Before After : A → Type 0) (a : A) : Type 0 where
  pub of_kind : IsKind a
  pub unspent : Before a → ⊥
  pub spent : After a

-- the limit stays, and the count doesn't fall
pub record KeepsLimit (old new : Meter) : Type 0 where
  pub limit : new.limit ≡ old.limit
  pub made : old.made ≤ new.made

-- The call ended well: it made no more nodes than members were counted after it and not before it, and each that was
-- counted before is counted after.
pub record Spends {A : Type 0} (Same : A → A → Type 0) (IsKind Before After : A → Type 0) (old new : Meter) : Type 0 where
  pub limit : KeepsLimit old new
  pub kept : (a : A) → Before a → After a
  pub counted : AtLeast Same (new.made - old.made) (NewlySpent IsKind Before After)

-- The call stopped for want of nodes: the meter is full, and more members weren't counted at entry than nodes were left.
pub record Lacks {A : Type 0} (Same : A → A → Type 0) (IsKind Before : A → Type 0) (old new : Meter) : Type 0 where
  pub limit : KeepsLimit old new
  pub full : new.made ≡ new.limit
  pub counted : AtLeast Same (old.limit - old.made + 1) (Unspent IsKind Before)

-- The call stopped for want of memory: it made no more nodes than members weren't counted at entry.
pub record Leaves {A : Type 0} (Same : A → A → Type 0) (IsKind Before : A → Type 0) (old new : Meter) : Type 0 where
  pub limit : KeepsLimit old new
  pub counted : AtLeast Same (new.made - old.made) (Unspent IsKind Before)
