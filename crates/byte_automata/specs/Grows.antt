-- How an exploration finds things and counts them, step by step (this project's own).
use Rattle.std.specs.Prelude.{ℕ, ◌≡◌, ◌+◌, ◌++◌, List, length}
use Rattle.std.specs.List.{All}
use Rattle.waf_base.specs.declared.refusal.Stop.{Stop}
use Rattle.waf_base.specs.declared.refusal.Stop.TheVariants.{Full, Memory}

-- the list is the earlier one and then things that have the property
abbrev pub Grows : {A : Type 0} → (A → Type 0) → List A → List A → Type 0
Grows {A} Has before after = (more : List A) × (after ≡ before ++ more) × All Has more

-- one node was counted for each thing that the list has more
abbrev pub Counts : {A : Type 0} → List A → List A → ℕ → ℕ → Type 0
Counts before after made_before made_after = length after + made_before ≡ length before + made_after

-- where the call stopped: Full comes at the limit, and one thing more is in the list than was counted
abbrev pub CountsOn : {A : Type 0} → Stop → List A → List A → ℕ → ℕ → ℕ → Type 0
CountsOn Full before after made_before made_after limit = (length after + made_before ≡ length before + made_after + 1) × (made_after ≡ limit)
CountsOn Memory before after made_before made_after limit = Counts before after made_before made_after
