-- Query arguments and cookies, and their names and values (this project's own).
use Rattle.std.specs.Prelude.{ℕ, List, length, filter, not, ◌==◌}
use Rattle.std.specs.List.{before_first, after_first}
use Rattle.waf_model.specs.Pieces.{cut}

-- the arguments of a query: the pieces between `&` that aren't empty
abbrev pub arguments_of : List ℕ → List (List ℕ)
arguments_of query = filter (λ piece. not (length piece == 0)) (cut 38 query)

-- the name of an argument or a cookie reaches to its first `=`; without one, all is name
abbrev pub name_of : List ℕ → List ℕ
name_of piece = before_first (λ b. b == 61) piece

-- the value stands behind the first `=`; without one, it is empty
abbrev pub value_of : List ℕ → List ℕ
value_of piece = after_first (λ b. b == 61) piece
