-- Reading is a function from what is read to the value or the first fault; a reader of the code gives what it gives.
use Rattle.std.specs.Prelude.{◌≡◌, Result, Ok, Err}

-- the second reads on from what the first gives, and the first fault stays
infixl 10 ◌>>=◌
abbrev pub ◌>>=◌ : {A B E : Type 0} → Result A E → (A → Result B E) → Result B E
(Ok a) >>= next = next a
(Err e) >>= next = Err e

-- What a reader returned, seen by `view`, is what the reading gives, and its fault, seen by `fault`, is the first one;
-- only want of memory, which is `memory`, may take the place of either.
abbrev pub GivesAs : {X Y E F : Type 0} → (E → F) → E → (X → Y) → Result X E → Result Y F → Type 0
GivesAs fault memory view (Ok x) reading = reading ≡ Ok (view x)
GivesAs fault memory view (Err e) reading = (e ≡ memory → ⊥) → reading ≡ Err (fault e)

-- the same where the faults are of one type
abbrev pub Gives : {X Y E : Type 0} → E → (X → Y) → Result X E → Result Y E → Type 0
Gives memory view (Ok x) reading = reading ≡ Ok (view x)
Gives memory view (Err e) reading = (e ≡ memory → ⊥) → reading ≡ Err e
