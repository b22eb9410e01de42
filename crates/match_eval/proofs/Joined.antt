-- Conditions of a list of which some are done.
use Rattle.std.proofs.Common.{◌≡◌, ◌↔◌, ℕ, ◌+◌, ◌<◌, List, [], ◌∷◌, ◌++◌, map, take, length, get_or, sym, ap, ◌∙◌}
use Rattle.std.proofs.lemmas.List.{map-append, take_more}
use Rattle.match_eval.specs.Ready.{condition_of}
use Rattle.match_eval.specs.Tree.{IsMetIn}
use Rattle.match_eval.specs.declared.prepared.Prepared.{Prepared}
use Rattle.waf_model.specs.Holds.{Condition}
use Rattle.waf_model.specs.declared.answers.Answers.{Answers}
use Rattle.waf_model.specs.declared.context.Context.{Context}
use Rattle.waf_model.specs.declared.request.Request.{Request}

-- the join of the rest is met just where that of the whole is
abbrev pub SameFrom : (List Condition → Condition) → Request → Answers → List (List ℕ) → Context → List Prepared → List Prepared → Type 0
SameFrom join request answers seen context rest whole =
    IsMetIn request answers seen context (join (map condition_of rest)) ↔ IsMetIn request answers seen context (join (map condition_of whole))

-- one more of each of two lists, where both give the same
pub same_more : {X Y Z : Type 0} (f : X → Z) (g : Y → Z) (all more : List X) (x : X) (parts : List Y) (i : ℕ) (part : Y) → i < length parts → part ≡ get_or parts i part
    → more ≡ all ++ x ∷ [] → f x ≡ g part → map f all ≡ map g (take i parts) → map f more ≡ map g (take (i + 1) parts)
same_more f g all more x parts i part inside is pushed one so_far =
    ap (map f) pushed ∙ map-append f all (x ∷ []) ∙ ap (λ zs. zs ++ f x ∷ []) so_far ∙ ap (λ z. map g (take i parts) ++ z ∷ []) (one ∙ ap g is)
    ∙ sym (map-append g (take i parts) (get_or parts i part ∷ [])) ∙ ap (map g) (sym (take_more parts i part inside))
