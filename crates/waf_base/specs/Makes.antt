-- The nodes of a call that makes one for each different thing of a kind (this project's own).
use Rattle.std.specs.Prelude.{◌≡◌, ◌+◌, ◌-◌, Result, Ok, Err}
use Rattle.waf_base.specs.Members.{AtLeast, Exactly}
use Rattle.waf_base.specs.declared.meter.Meter.{Meter}
use Rattle.waf_base.specs.declared.refusal.Stop.{Stop}
use Rattle.waf_base.specs.declared.refusal.Stop.TheVariants.{Full, Memory}
use Rattle.waf_base.specs.Spending.{KeepsLimit}

-- What was made, by the answer: just as many nodes as there are different things. Full comes where, and only where,
-- there are more things than nodes were left at entry, and the meter is full then. After want of memory no more nodes
-- are counted than there are things.
abbrev pub MakesBy : {A R : Type 0} → (A → A → Type 0) → (A → Type 0) → Result R Stop → Meter → Meter → Type 0
MakesBy Same Has (Ok answer) old new = Exactly Same (new.made - old.made) Has
MakesBy Same Has (Err Full) old new = (new.made ≡ new.limit) × AtLeast Same (old.limit - old.made + 1) Has
MakesBy Same Has (Err Memory) old new = AtLeast Same (new.made - old.made) Has

-- the same, and the limit stays
pub record Makes {A R : Type 0} (Same : A → A → Type 0) (Has : A → Type 0) (result : Result R Stop) (old new : Meter) : Type 0 where
  pub kept : KeepsLimit old new
  pub by : MakesBy Same Has result old new

-- What was made at most, by the answer, where a call makes several things one from another: no more nodes than there
-- are different things.
abbrev pub MakesAtMostBy : {A R : Type 0} → (A → A → Type 0) → (A → Type 0) → Result R Stop → Meter → Meter → Type 0
MakesAtMostBy Same Has (Ok answer) old new = AtLeast Same (new.made - old.made) Has
MakesAtMostBy Same Has (Err Full) old new = (new.made ≡ new.limit) × AtLeast Same (old.limit - old.made + 1) Has
MakesAtMostBy Same Has (Err Memory) old new = AtLeast Same (new.made - old.made) Has

-- the same, and the limit stays
pub record MakesAtMost {A R : Type 0} (Same : A → A → Type 0) (Has : A → Type 0) (result : Result R Stop) (old new : Meter) : Type 0 where
  pub kept : KeepsLimit old new
  pub by : MakesAtMostBy Same Has result old new
