-- Whether a step matches depends on which labels were seen alone.
use Rattle.std.proofs.Common.{ℕ, ◌↔◌, List, Option, Some, None, inl, inr}
use Rattle.waf_model.specs.Firing.{HoldsIfThere, Matches}
use Rattle.waf_model.specs.Holds.{Condition, never, always, tested, addressed, labelled, answered, both, either, opposite, IsMet, condition}
use Rattle.waf_model.specs.Steps.{Tried, rule, managed}
use Rattle.waf_model.specs.declared.answers.Answers.{Answers}
use Rattle.waf_model.specs.declared.bundle.Bundle.{Bundle}
use Rattle.waf_model.specs.declared.request.Request.{Request}
use Rattle.waf_model.specs.declared.statement.Statement.{Statement}

abbrev pub SameSeen : (List ℕ → Type 0) → (List ℕ → Type 0) → Type 0
SameSeen seen other = (label : List ℕ) → seen label ↔ other label

met_both : (request : Request) (answers : Answers) (seen other : List ℕ → Type 0) (namespace : List ℕ) (limit : ℕ) → SameSeen seen other → (c : Condition)
    → IsMet request answers seen namespace limit c ↔ IsMet request answers other namespace limit c
met_both request answers seen other namespace limit same never = (λ h. h, λ h. h)
met_both request answers seen other namespace limit same always = (λ h. h, λ h. h)
met_both request answers seen other namespace limit same (tested test field transforms) = (λ h. h, λ h. h)
met_both request answers seen other namespace limit same (addressed ranges forwarded) = (λ h. h, λ h. h)
met_both request answers seen other namespace limit same (labelled scope key) = (λ h. (h.0, (same h.0).0 h.1, h.2), λ h. (h.0, (same h.0).1 h.1, h.2))
met_both request answers seen other namespace limit same (answered key) = (λ h. h, λ h. h)
met_both request answers seen other namespace limit same (both a b) =
    let f = met_both request answers seen other namespace limit same a in
    let g = met_both request answers seen other namespace limit same b in
    (λ h. (f.0 h.0, g.0 h.1), λ h. (f.1 h.0, g.1 h.1))
met_both request answers seen other namespace limit same (either a b) =
    let f = met_both request answers seen other namespace limit same a in
    let g = met_both request answers seen other namespace limit same b in (
      λ h. elim h [
        | inl one ↦ inl (f.0 one)
        | inr one ↦ inr (g.0 one)
      ],
      λ h. elim h [
        | inl one ↦ inl (f.1 one)
        | inr one ↦ inr (g.1 one)
      ],
    )
met_both request answers seen other namespace limit same (opposite a) =
    let f = met_both request answers seen other namespace limit same a in
    (λ h x. h (f.1 x), λ h x. h (f.0 x))

holds_if_there : (bundle : Bundle) (request : Request) (answers : Answers) (seen other : List ℕ → Type 0) (namespace : List ℕ) → SameSeen seen other → (there : Option Statement)
    → HoldsIfThere bundle there request answers seen namespace ↔ HoldsIfThere bundle there request answers other namespace
holds_if_there bundle request answers seen other namespace same None = (λ h. h, λ h. h)
holds_if_there bundle request answers seen other namespace same (Some statement) =
    met_both request answers seen other namespace bundle.acl.body_limit same (condition bundle statement)

-- where the same labels were seen, the same matches
pub matches_same : (bundle : Bundle) (request : Request) (answers : Answers) (seen other : List ℕ → Type 0) (namespace : List ℕ) (tried : Tried) → SameSeen seen other
    → Matches bundle request answers seen namespace tried ↔ Matches bundle request answers other namespace tried
matches_same bundle request answers seen other namespace (rule statement action labels captcha challenge) same =
    met_both request answers seen other namespace bundle.acl.body_limit same (condition bundle statement)
matches_same bundle request answers seen other namespace (managed use_of) same = holds_if_there bundle request answers seen other namespace same use_of.scope_down
