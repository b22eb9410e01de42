-- What a sink has taken.
use Rattle.std.specs.Prelude.{ℕ, ◌≡◌, List, ◌++◌, Option, option_map}

-- where the bytes taken are told, they are those from before and then the piece; what was told stays told
abbrev pub Appends : Option (List ℕ) → Option (List ℕ) → List ℕ → Type 0
Appends before after piece = after ≡ option_map (λ bytes. bytes ++ piece) before
