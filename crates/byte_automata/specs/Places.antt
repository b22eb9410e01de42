-- The table of the places of different numbers (this project's own).
use Rattle.std.specs.Prelude.{ℕ, ◌≡◌, ◌<◌, List, length, slice_index}
use Rattle.std.specs.List.{All}

-- each of the first `known` numbers of the order has its place in the table, and each entry is a place
pub record IsPlaced (order : List ℕ) (known count : ℕ) (table : List ℕ) : Type 0 where
  pub entries : length table ≡ count
  pub within : All (λ place. place < length order) table
  pub place : (k : ℕ) → k < known → slice_index table (slice_index order k) ≡ k
