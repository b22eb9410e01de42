-- A match of the whole path holds just where the path is the search string.
use Rattle.std.proofs.Common.{◌≡◌, ℕ, zero, suc, ◌<◌, ◌↔◌, List, [], ◌∷◌, get_or, true, refl, sym, ap, ◌∙◌, arith}
use Rattle.std.specs.List.{list_all, Any}
use Rattle.waf_model.specs.Holds.{Condition, Holds, IsMet, condition, condition_step, tested}
use Rattle.waf_model.specs.Passes.{Passes, search as searched}
use Rattle.waf_model.specs.Transformed.{transform_all}
use Rattle.waf_model.specs.declared.answers.Answers.{Answers}
use Rattle.waf_model.specs.declared.bundle.Bundle.{Bundle}
use Rattle.waf_model.specs.declared.field.Field.{Field}
use Rattle.waf_model.specs.declared.field.Field.TheVariants.{UriPath}
use Rattle.waf_model.specs.declared.matching.Position.{Position}
use Rattle.waf_model.specs.declared.matching.Position.TheVariants.{Exactly}
use Rattle.waf_model.specs.declared.request.Request.{Request}
use Rattle.waf_model.specs.declared.statement.Statement.{Statement-F, fold-roll-Statement}
use Rattle.waf_model.specs.declared.statement.Statement.TheVariants.{ByteMatch, rolls-ByteMatch}
use Rattle.waf_model.specs.declared.transform.Transform.{Transform}
use Rattle.waf_model.specs.declared.transform.Transform.TheVariants.{KeepAll}
use Rattle.parting_build.specs.WholePath.{is_whole_path, keeps_all}

-- the condition of a byte match
condition-ByteMatch : (bundle : Bundle) (wanted : List ℕ) (field : Field) (ts : List Transform) (position : Position)
    → condition bundle (ByteMatch wanted field ts position) ≡ tested (searched position wanted) field ts
condition-ByteMatch bundle wanted field ts position =
    ap (condition bundle) (sym (rolls-ByteMatch wanted field ts position)) ∙ fold-roll-Statement Condition (condition_step bundle) (Statement-F.ByteMatch wanted field ts position)

-- transformations that are all NONE leave the text
transform_all-keep : (ts : List Transform) (text : List ℕ) → list_all keeps_all ts ≡ true → transform_all ts text ≡ text
transform_all-keep [] text keep = refl
transform_all-keep (KeepAll ∷ ts) text keep = transform_all-keep ts text keep
transform_all-keep (t ∷ ts) text keep = cc

-- the test on the list that holds the path alone
at_path : (wanted path : List ℕ) (ts : List Transform) → list_all keeps_all ts ≡ true
    → (path ≡ wanted) ↔ Any (λ text. Passes (searched Exactly wanted) (transform_all ts text)) (path ∷ [])
at_path wanted path ts keep =
    (λ e. (0, path, omega arith, refl, transform_all-keep ts path keep ∙ e), λ some. from_some some.0 some.1 some.2 some.3 some.4)
  where
    from_some : (k : ℕ) (x : List ℕ) → k < 1 → get_or (path ∷ []) k x ≡ x → transform_all ts x ≡ wanted → path ≡ wanted
    from_some zero x within same e = sym (transform_all-keep ts path keep) ∙ rw same e
    from_some (suc k) x within same e = absurd (omega arith)

-- the condition is met just where the path is the search string
met_is : (wanted : List ℕ) (field : Field) (ts : List Transform) (position : Position) (request : Request) (answers : Answers) (seen : List ℕ → Type 0) (namespace : List ℕ) (limit : ℕ)
    → is_whole_path field ts position ≡ true → (request.path ≡ wanted) ↔ IsMet request answers seen namespace limit (tested (searched position wanted) field ts)
met_is wanted UriPath ts Exactly request answers seen namespace limit is = at_path wanted request.path ts is
met_is wanted field ts position request answers seen namespace limit is = absurd (cc)

pub holds_is : (bundle : Bundle) (wanted : List ℕ) (field : Field) (ts : List Transform) (position : Position) (request : Request) (answers : Answers) (seen : List ℕ → Type 0) (namespace : List ℕ) (limit : ℕ)
    → is_whole_path field ts position ≡ true → (request.path ≡ wanted) ↔ Holds bundle (ByteMatch wanted field ts position) request answers seen namespace limit
holds_is bundle wanted field ts position request answers seen namespace limit is =
    rw (condition-ByteMatch bundle wanted field ts position) (met_is wanted field ts position request answers seen namespace limit is)
