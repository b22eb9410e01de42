-- How much of headers and cookies is inspected (AWS WAF Developer Guide, "Oversize web request components"; what is
-- counted is this project's own).
use Rattle.std.specs.Prelude.{ℕ, zero, suc, List, [], length, take, sum_by, Bool, ◌||◌, nat_lt, if◌then◌else◌}

-- at most so many entries are inspected
abbrev pub most_entries : ℕ
most_entries = 200

-- and at most so many bytes of them
abbrev pub most_bytes : ℕ
most_bytes = 8192

-- there are more entries, or more bytes in them, than are inspected
abbrev pub is_over : {X : Type 0} → (X → ℕ) → List X → Bool
is_over size entries = nat_lt most_entries (length entries) || nat_lt most_bytes (sum_by size entries)

-- the longest prefix, of at most n entries, that isn't over
abbrev pub longest : {X : Type 0} → (X → ℕ) → List X → ℕ → List X
longest size entries zero = []
longest size entries (suc n) = if is_over size (take (suc n) entries) then longest size entries n else take (suc n) entries

-- the longest prefix of the entries that isn't over
abbrev pub inspected : {X : Type 0} → (X → ℕ) → List X → List X
inspected size entries = longest size entries (length entries)
