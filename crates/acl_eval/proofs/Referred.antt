-- The prepared group that a rule of the web ACL refers to.
use Rattle.std.proofs.Common.{◌≡◌, ℕ, List, [], ◌∷◌, map, find, Bool, true, false, cond, Option, Some, Result, All, IfOk, IfSome, refl, ap, subst, ◌∙◌}
use Rattle.std.proofs.lemmas.List.Elements.{All-head, All-tail}
use Rattle.std.specs.Option.{option_map_or}
use Rattle.std.specs.Str.{bytes_eq}
use Rattle.acl_eval.specs.Walk.{IsWalk}
use Rattle.acl_eval.specs.declared.case.End.{End}
use Rattle.acl_eval.specs.declared.ready_group.ReadyGroup.{ReadyGroup}
use Rattle.waf_model.specs.References.{group_of}
use Rattle.waf_model.specs.Steps.{Step}
use Rattle.waf_model.specs.declared.answers.Answers.{Answers}
use Rattle.waf_model.specs.declared.bundle.Bundle.{Bundle}
use Rattle.waf_model.specs.declared.group.Group.{Group}
use Rattle.waf_model.specs.declared.request.Request.{Request}

-- the first of that ARN
abbrev pub ready_of : List ReadyGroup → List ℕ → Option ReadyGroup
ready_of readies arn = find (λ ready. bytes_eq ready.group.now.arn arn) readies

abbrev pub groups_in : List ReadyGroup → List Group
groups_in readies = map (λ ready. ready.group.now) readies

-- what holds of each holds of the one that is found
pub found_is : (P : ReadyGroup → Type 0) (arn : List ℕ) (readies : List ReadyGroup) → All P readies → IfSome (ready_of readies arn) P
found_is P arn [] each = tt
found_is P arn (ready ∷ readies) each = by (found_is P arn readies (All-tail P ready readies each)) (All-head P ready readies each) (bytes_eq ready.group.now.arn arn)
  where
    by : IfSome (ready_of readies arn) P → P ready → (b : Bool) → IfSome (cond b (Some ready) (ready_of readies arn)) P
    by rest here true = here
    by rest here false = rest

-- its group is the one that is found among the groups
found_steps : (F : Group → List Step) (arn : List ℕ) (readies : List ReadyGroup)
    → option_map_or (λ ready. F ready.group.now) (ready_of readies arn) [] ≡ option_map_or F (group_of (groups_in readies) arn) []
found_steps F arn [] = refl
found_steps F arn (ready ∷ readies) = by (found_steps F arn readies) (bytes_eq ready.group.now.arn arn)
  where
    by : option_map_or (λ ready. F ready.group.now) (ready_of readies arn) [] ≡ option_map_or F (group_of (groups_in readies) arn) [] → (b : Bool)
        → option_map_or (λ ready. F ready.group.now) (cond b (Some ready) (ready_of readies arn)) [] ≡ option_map_or F (cond b (Some ready.group.now) (group_of (groups_in readies) arn)) []
    by rest true = refl
    by rest false = rest

-- the steps of what is found, as the steps of a rule of the web ACL name them
pub referred_steps : (F : Group → List Step) (arn : List ℕ) (readies : List ReadyGroup) (groups : List Group) (found : Option ReadyGroup)
    → groups_in readies ≡ groups → found ≡ ready_of readies arn → option_map_or (λ ready. F ready.group.now) found [] ≡ option_map_or F (group_of groups arn) []
referred_steps F arn readies groups found are is =
    ap (λ (o : Option ReadyGroup). option_map_or (λ ready. F ready.group.now) o []) is ∙ found_steps F arn readies ∙ ap (λ (l : List Group). option_map_or F (group_of l arn) []) are

-- a walk over the same steps
pub walk_same : (bundle : Bundle) (request : Request) (answers : Answers) (place : ℕ) (steps other : List Step) (labels after : List (List ℕ)) {E : Type 0} (result : Result (Option End) E)
    → steps ≡ other → IfOk result (IsWalk bundle request answers place steps labels after) → IfOk result (IsWalk bundle request answers place other labels after)
walk_same bundle request answers place steps other labels after result same walk =
    subst (λ (l : List Step). IfOk result (IsWalk bundle request answers place l labels after)) same walk
