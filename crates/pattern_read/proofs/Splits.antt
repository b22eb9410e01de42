-- The last of a list of groups.
use Rattle.std.proofs.Common.{◌≡◌, suc, List, [], ◌∷◌, ◌++◌, length, Option, Some, None, refl, ap, subst}
use Rattle.pattern_read.specs.Machine.{and_last, split_last}
use Rattle.pattern_read.specs.declared.group.Group.{Group}

pub split_last-append : (outer : List Group) (g : Group) → split_last (outer ++ g ∷ []) ≡ Some (outer, g)
split_last-append [] g = refl
split_last-append (h ∷ outer) g = ap (and_last h) (split_last-append outer g)

-- what is split has one group more
abbrev Shape : List Group → Option (List Group × Group) → Type 0
Shape outer None = length outer ≡ 0
Shape outer (Some found) = length outer ≡ suc (length found.0)

grow : (h : Group) (outer : List Group) (o : Option (List Group × Group)) → Shape outer o → Shape (h ∷ outer) (and_last h o)
grow h outer None is = ap suc is
grow h outer (Some found) is = ap suc is

shape : (outer : List Group) → Shape outer (split_last outer)
shape [] = refl
shape (h ∷ outer) = grow h outer (split_last outer) (shape outer)

pub split_last-length : (outer rest : List Group) (g : Group) → split_last outer ≡ Some (rest, g) → length outer ≡ suc (length rest)
split_last-length outer rest g is = subst (Shape outer) is (shape outer)
