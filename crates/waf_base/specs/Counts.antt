-- Counts of faults, which never fall, and stay at 2 ^ 64 - 1 once they stand there (this project's own).
use Rattle.std.specs.Prelude.{ℕ, ◌≡◌, ◌+◌, ◌<◌, ◌≤◌, ◌⊎◌, min}

-- the greatest value of a count
abbrev pub greatest_count : ℕ
greatest_count = 18446744073709551615

-- the count rose, or it stands at its greatest value, where it can't rise
abbrev pub Rose : ℕ → ℕ → Type 0
Rose before after = (before < after) ⊎ (greatest_count ≤ before)

-- the count didn't rise: it is what it was, below its greatest value, where a fault would have raised it. So no count both
-- rose and stayed. What is asked says this; what an answer other than a fault promises is that the count is what it was,
-- since such an answer also comes where the count stands at its greatest value
abbrev pub Stayed : ℕ → ℕ → Type 0
Stayed before after = (after ≡ before) × (before < greatest_count)

-- the count after one more
abbrev pub one_more : ℕ → ℕ
one_more count = min (count + 1) greatest_count
