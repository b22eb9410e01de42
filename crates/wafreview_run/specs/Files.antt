-- Which bytes may have been read of the files that a command names, and at which file reading may have ended (this
-- project's own). `tells` is what is told of a name, and `may` says of a name that reading it may have ended so.
use Rattle.std.specs.Prelude.{ℕ, ◌≡◌, ◌⊎◌, List, [], ◌∷◌}
use Rattle.waf_base.specs.Holding.{Holding, MayRead}
use Rattle.wafreview_run.specs.declared.role.Role.{Role}

-- these may be the bytes of all the files
abbrev pub AreRead : (List ℕ → Holding) → List (Role × List ℕ) → List (List ℕ) → Type 0
AreRead tells [] [] = Unit {0}
AreRead tells [] (bytes ∷ contents) = ⊥
AreRead tells (file ∷ files) [] = ⊥
AreRead tells (file ∷ files) (bytes ∷ contents) = MayRead (tells file.1) bytes × AreRead tells files contents

-- a file of this role is among them and may be such a one, and every file named before it may have been read; that it is
-- the first whose read failed is not said
abbrev pub FirstUnread : (List ℕ → Holding) → (List ℕ → Type 0) → List (Role × List ℕ) → Role → Type 0
FirstUnread tells may [] role = ⊥
FirstUnread tells may (file ∷ files) role = ((file.0 ≡ role) × may file.1) ⊎ ((bytes : List ℕ) × MayRead (tells file.1) bytes × FirstUnread tells may files role)
