-- The count of one call, told over other things; and what it says where some things were counted before.
use Rattle.std.proofs.Common.{ℕ, ◌+◌, ◌-◌, Ok, Err, Result}
use Rattle.waf_base.specs.Members.{AtLeast}
use Rattle.waf_base.specs.declared.meter.Meter.{Meter}
use Rattle.waf_base.specs.declared.refusal.Stop.{Stop}
use Rattle.waf_base.specs.declared.refusal.Stop.TheVariants.{Full, Memory}
use Rattle.waf_base.specs.Makes.{Makes, MakesAtMost}
use Rattle.waf_base.specs.Spending.{Unspent, NewlySpent, Spends, Lacks, Leaves}
use Rattle.waf_base.proofs.Told.{at_least-told, exactly-told}

-- just as many are at most as many
pub makes-at_most : {A R : Type 0} (Same : A → A → Type 0) (Has : A → Type 0) (result : Result R Stop) (old new : Meter) → Makes Same Has result old new → MakesAtMost Same Has result old new
makes-at_most Same Has (Ok answer) old new m = record { kept = m.kept; by = m.by.at_least }
makes-at_most Same Has (Err Full) old new m = record { kept = m.kept; by = m.by }
makes-at_most Same Has (Err Memory) old new m = record { kept = m.kept; by = m.by }

module _ {A B R : Type 0} (Same : A → A → Type 0) (Same' : B → B → Type 0) (K : A → Type 0) (L : B → Type 0) (f : (a : A) → K a → B) (into : (a : A) (k : K a) → L (f a k))
    (apart : (a b : A) (k : K a) (l : K b) → Same' (f a k) (f b l) → Same a b) (other : B) where
  -- where each thing of the one kind tells one of the other, and two that tell the same are the same
  pub makes_at_most-told : (result : Result R Stop) (old new : Meter) → MakesAtMost Same K result old new → MakesAtMost Same' L result old new
  makes_at_most-told (Ok answer) old new m = record { kept = m.kept; by = at_least-told Same Same' K L f into apart other (new.made - old.made) m.by }
  makes_at_most-told (Err Full) old new m = record { kept = m.kept; by = (m.by.0, at_least-told Same Same' K L f into apart other (old.limit - old.made + 1) m.by.1) }
  makes_at_most-told (Err Memory) old new m = record { kept = m.kept; by = at_least-told Same Same' K L f into apart other (new.made - old.made) m.by }

  -- where besides the same things tell the same, and each thing of the other kind is told
  pub makes-told : ((a b : A) → Same a b → Same b a) → ((a b c : A) → Same a b → Same b c → Same a c) → ((a b : A) (k : K a) (l : K b) → Same a b → Same' (f a k) (f b l))
      → ((a b c : B) → Same' a b → Same' b c → Same' a c) → ((b : B) → L b → (a : A) × (k : K a) × Same' (f a k) b)
      → (result : Result R Stop) (old new : Meter) → Makes Same K result old new → Makes Same' L result old new
  makes-told symmetric transitive alike transitive' onto (Ok answer) old new m = record {
    kept = m.kept;
    by = exactly-told Same Same' K L f into apart symmetric transitive (new.made - old.made) m.by other alike transitive' onto;
  }
  makes-told symmetric transitive alike transitive' onto (Err Full) old new m = record {
    kept = m.kept;
    by = (m.by.0, at_least-told Same Same' K L f into apart other (old.limit - old.made + 1) m.by.1);
  }
  makes-told symmetric transitive alike transitive' onto (Err Memory) old new m = record {
    kept = m.kept;
    by = at_least-told Same Same' K L f into apart other (new.made - old.made) m.by;
  }

-- Two samenesses that agree on what is of the kind count alike.
pub makes-alike : {A R : Type 0} (Same Same' : A → A → Type 0) (Has : A → Type 0) (other : A) → ((a b : A) → Same a b → Same b a) → ((a b c : A) → Same a b → Same b c → Same a c)
    → ((a b c : A) → Same' a b → Same' b c → Same' a c) → ((a : A) → Has a → Same' a a) → ((a b : A) → Has a → Has b → Same a b → Same' a b) → ((a b : A) → Has a → Has b → Same' a b → Same a b)
    → (result : Result R Stop) (old new : Meter) → Makes Same Has result old new → Makes Same' Has result old new
makes-alike Same Same' Has other symmetric transitive transitive' reflexive' alike apart =
    makes-told Same Same' Has Has (λ a h. a) (λ a h. h) (λ a b h k. apart a b h k) other symmetric transitive (λ a b h k. alike a b h k) transitive' (λ b h. (b, h, reflexive' b h))

module _ {A B : Type 0} (Same : A → A → Type 0) (Same' : B → B → Type 0) (K : A → Type 0) (L : B → Type 0) (f : (a : A) → K a → B) (into : (a : A) (k : K a) → L (f a k))
    (apart : (a b : A) (k : K a) (l : K b) → Same' (f a k) (f b l) → Same a b) (other : B) (old new : Meter) where
  module _ (Before After : A → Type 0) (Before' After' : B → Type 0) (unspent : (a : A) (k : K a) → Before' (f a k) → Before a) where
    -- what a call counted of one kind, told as members of another
    pub spends-told : ((a : A) (k : K a) → After a → After' (f a k)) → ((b : B) → Before' b → After' b) → Spends Same K Before After old new → Spends Same' L Before' After' old new
    spends-told spent kept s = record {
      limit = s.limit;
      kept = kept;
      counted =
          at_least-told Same Same' (NewlySpent K Before After) (NewlySpent L Before' After') (λ a n. f a n.of_kind)
          (λ a n. record { of_kind = into a n.of_kind; unspent = λ b. n.unspent (unspent a n.of_kind b); spent = spent a n.of_kind n.spent })
          (λ a b n m. apart a b n.of_kind m.of_kind) other (new.made - old.made) s.counted;
    }

    left : (n : ℕ) → AtLeast Same n (Unspent K Before) → AtLeast Same' n (Unspent L Before')
    left =
        at_least-told Same Same' (Unspent K Before) (Unspent L Before') (λ a n. f a n.of_kind) (λ a n. record { of_kind = into a n.of_kind; unspent = λ b. n.unspent (unspent a n.of_kind b) })
        (λ a b n m. apart a b n.of_kind m.of_kind) other

    pub lacks-told : Lacks Same K Before old new → Lacks Same' L Before' old new
    lacks-told s = record { limit = s.limit; full = s.full; counted = left (old.limit - old.made + 1) s.counted }

    pub leaves-told : Leaves Same K Before old new → Leaves Same' L Before' old new
    leaves-told s = record { limit = s.limit; counted = left (new.made - old.made) s.counted }

  module _ (Before' : B → Type 0) (unspent : (a : A) (k : K a) → Before' (f a k) → ⊥) where
    -- what a call that makes nodes of nothing before counted, where none of it was counted
    pub spends-made : {R : Type 0} (After' : B → Type 0) → ((a : A) (k : K a) → After' (f a k)) → ((b : B) → Before' b → After' b) → (answer : R) → MakesAtMost Same K (Ok answer) old new → Spends Same' L Before' After' old new
    spends-made After' spent kept answer m = record {
      limit = m.kept;
      kept = kept;
      counted =
          at_least-told Same Same' K (NewlySpent L Before' After') f (λ a k. record { of_kind = into a k; unspent = unspent a k; spent = spent a k }) apart other (new.made - old.made) m.by;
    }

    made-left : (n : ℕ) → AtLeast Same n K → AtLeast Same' n (Unspent L Before')
    made-left = at_least-told Same Same' K (Unspent L Before') f (λ a k. record { of_kind = into a k; unspent = unspent a k }) apart other

    pub lacks-made : {R : Type 0} → MakesAtMost {A = A} {R = R} Same K (Err Full) old new → Lacks Same' L Before' old new
    lacks-made m = record { limit = m.kept; full = m.by.0; counted = made-left (old.limit - old.made + 1) m.by.1 }

    pub leaves-made : {R : Type 0} → MakesAtMost {A = A} {R = R} Same K (Err Memory) old new → Leaves Same' L Before' old new
    leaves-made m = record { limit = m.kept; counted = made-left (new.made - old.made) m.by }
