-- What holds of all that a reading gives.
use Rattle.std.proofs.Common.{Result, Ok, Err, IfOk}
use Rattle.std.proofs.lemmas.Result.{IfOk-at_ok}
use Rattle.waf_model.specs.Gives.{◌>>=◌, Gives}

-- it holds if it holds of all that is read on
pub onward : {A B E : Type 0} (P : B → Type 0) (r : Result A E) (next : A → Result B E) → ((a : A) → IfOk (next a) P) → IfOk (r >>= next) P
onward P (Ok a) next holds = holds a
onward P (Err e) next holds = tt

-- the same, where something holds of what was read first
pub onward_with : {A B E : Type 0} (Q : A → Type 0) (P : B → Type 0) (r : Result A E) (next : A → Result B E) → IfOk r Q → ((a : A) → Q a → IfOk (next a) P) → IfOk (r >>= next) P
onward_with Q P (Ok a) next first holds = holds a first
onward_with Q P (Err e) next first holds = tt

-- it holds of what the code returned
pub of_returned : {X Y E : Type 0} (memory : E) (view : X → Y) (P : Y → Type 0) (result : Result X E) (reading : Result Y E)
    → Gives memory view result reading → IfOk reading P → IfOk result (λ x. P (view x))
of_returned memory view P (Ok x) reading gave holds = IfOk-at_ok P gave holds
of_returned memory view P (Err e) reading gave holds = tt
