-- Which of two lists of references misses something first.
use Rattle.std.proofs.Common.{◌≡◌, ℕ, ◌+◌, ◌<◌, List, ◌∷◌, ◌++◌, map, length, drop, get_or, fold, find, not, Option, Some, None, option_map, refl, ap, sym, ◌∙◌, add-one, drop-cons}
use Rattle.std.proofs.lemmas.List.Folds.{find-append}
use Rattle.std.specs.List.{flat_map}
use Rattle.std.specs.Option.{option_or}
use Rattle.waf_model.specs.References.{Reference, arn_of, is_listed, references}
use Rattle.waf_model.specs.declared.bundle.Bundle.{Bundle}
use Rattle.waf_model.specs.declared.group.Group.{Group}
use Rattle.waf_model.specs.declared.statement.Statement.{Statement}
use Rattle.set_json.specs.Missing.{first_missing, missing_of_groups, missing_of_rules, told}

map_or : {A B : Type 0} (f : A → B) (one other : Option A) → option_map f (option_or one other) ≡ option_or (option_map f one) (option_map f other)
map_or f None other = refl
map_or f (Some a) other = refl

-- those of the first list come first
pub first_missing_append : (bundle : Bundle) (some others : List Reference) → first_missing bundle (some ++ others) ≡ option_or (first_missing bundle some) (first_missing bundle others)
first_missing_append bundle some others =
    ap (option_map arn_of) (find-append (λ reference. not (is_listed bundle reference)) some others)
    ∙ map_or arn_of (find (λ reference. not (is_listed bundle reference)) some) (find (λ reference. not (is_listed bundle reference)) others)

-- what the first list misses is missed first
pub first_missing_here : (bundle : Bundle) (some others : List Reference) (arn : List ℕ) → Some arn ≡ first_missing bundle some → Some arn ≡ first_missing bundle (some ++ others)
first_missing_here bundle some others arn is = ap (λ found. option_or found (first_missing bundle others)) is ∙ sym (first_missing_append bundle some others)

-- where it misses nothing, the others decide
pub first_missing_behind : (bundle : Bundle) (some others : List Reference) → None ≡ first_missing bundle some → first_missing bundle others ≡ first_missing bundle (some ++ others)
first_missing_behind bundle some others is = ap (λ found. option_or found (first_missing bundle others)) is ∙ sym (first_missing_append bundle some others)

-- what is left of a list, by its next element
pub next_of : {X : Type 0} (xs : List X) (i : ℕ) (x : X) → i < length xs → x ≡ get_or xs i x → drop i xs ≡ x ∷ drop (i + 1) xs
next_of xs i x within is = rw (add-one, drop-cons xs i x, ← is)

-- what the parts of a statement miss first
abbrev pub missing_of_parts : Bundle → List Statement → Option (List ℕ)
missing_of_parts bundle parts = first_missing bundle (flat_map (λ part. part) (map references parts))

pub part_here : (bundle : Bundle) (parts : List Statement) (i : ℕ) (part : Statement) (arn : List ℕ) → i < length parts → part ≡ get_or parts i part
    → missing_of_parts bundle (drop i parts) ≡ missing_of_parts bundle parts → Some arn ≡ first_missing bundle (references part) → Some arn ≡ missing_of_parts bundle parts
part_here bundle parts i part arn within is so misses =
    first_missing_here bundle (references part) (flat_map (λ part. part) (map references (drop (i + 1) parts))) arn misses
    ∙ ap (missing_of_parts bundle) (sym (next_of parts i part within is)) ∙ so

pub part_behind : (bundle : Bundle) (parts : List Statement) (i : ℕ) (part : Statement) → i < length parts → part ≡ get_or parts i part
    → missing_of_parts bundle (drop i parts) ≡ missing_of_parts bundle parts → None ≡ first_missing bundle (references part) → missing_of_parts bundle (drop (i + 1) parts) ≡ missing_of_parts bundle parts
part_behind bundle parts i part within is so misses =
    first_missing_behind bundle (references part) (flat_map (λ part. part) (map references (drop (i + 1) parts))) misses
    ∙ ap (missing_of_parts bundle) (sym (next_of parts i part within is)) ∙ so

-- one more element of a list that is gone through by a step
pub folded_more : {A X : Type 0} (step : A → X → A) (xs : List X) (i : ℕ) (x : X) (now next first : A) → i < length xs → x ≡ get_or xs i x
    → fold step now (drop i xs) ≡ fold step first xs → next ≡ step now x → fold step next (drop (i + 1) xs) ≡ fold step first xs
folded_more step xs i x now next first within is so became =
    ap (λ a. fold step a (drop (i + 1) xs)) became ∙ ap (fold step now) (sym (next_of xs i x within is)) ∙ so

pub group_here : (bundle : Bundle) (groups : List Group) (i : ℕ) (group : Group) (arn : List ℕ) → i < length groups → group ≡ get_or groups i group
    → missing_of_groups bundle (drop i groups) ≡ missing_of_groups bundle groups → Some arn ≡ told (missing_of_rules bundle group.rules) → Some arn ≡ missing_of_groups bundle groups
group_here bundle groups i group arn within is so misses =
    ap (λ found. option_or found (missing_of_groups bundle (drop (i + 1) groups))) misses ∙ ap (missing_of_groups bundle) (sym (next_of groups i group within is)) ∙ so

pub group_behind : (bundle : Bundle) (groups : List Group) (i : ℕ) (group : Group) → i < length groups → group ≡ get_or groups i group
    → missing_of_groups bundle (drop i groups) ≡ missing_of_groups bundle groups → None ≡ told (missing_of_rules bundle group.rules) → missing_of_groups bundle (drop (i + 1) groups) ≡ missing_of_groups bundle groups
group_behind bundle groups i group within is so misses =
    ap (λ found. option_or found (missing_of_groups bundle (drop (i + 1) groups))) misses ∙ ap (missing_of_groups bundle) (sym (next_of groups i group within is)) ∙ so
