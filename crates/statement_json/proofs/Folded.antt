-- What a fold over statements gives for each kind of statement.
use Rattle.std.proofs.Common.{◌≡◌, ℕ, List, map, Option, Some, None, sym, ap, ◌∙◌}
use Rattle.waf_model.specs.declared.field.Field.{Field}
use Rattle.waf_model.specs.declared.matching.Compare.{Compare}
use Rattle.waf_model.specs.declared.matching.Forwarded.{Forwarded}
use Rattle.waf_model.specs.declared.matching.LabelScope.{LabelScope}
use Rattle.waf_model.specs.declared.matching.Position.{Position}
use Rattle.waf_model.specs.declared.pattern.Pattern.{Pattern}
use Rattle.waf_model.specs.declared.statement.Statement.{Statement}
use Rattle.waf_model.specs.declared.statement.Statement.TheFolds.{fold-Statement, fold-roll-Statement}
use Rattle.waf_model.specs.declared.statement.Statement.TheOpen.{Statement-F}
use Rattle.waf_model.specs.declared.statement.Statement.TheVariants.{ByteMatch, Size, Regex, PatternSet, Ip, Label, And, Or, Not, Rate, Opaque, rolls-ByteMatch, rolls-Size, rolls-Regex, rolls-PatternSet, rolls-Ip, rolls-Label, rolls-And, rolls-Or, rolls-Not, rolls-Rate, rolls-Opaque}
use Rattle.waf_model.specs.declared.transform.Transform.{Transform}

pub folded-ByteMatch : {A : Type 0} (step : Statement-F A → A) (search : List ℕ) (field : Field) (transforms : List Transform) (position : Position)
    → fold-Statement A step (ByteMatch search field transforms position) ≡ step (Statement-F.ByteMatch search field transforms position)
folded-ByteMatch {A} step search field transforms position =
    ap (fold-Statement A step) (sym (rolls-ByteMatch search field transforms position)) ∙ fold-roll-Statement A step (Statement-F.ByteMatch search field transforms position)

pub folded-Size : {A : Type 0} (step : Statement-F A → A) (op : Compare) (size : ℕ) (field : Field) (transforms : List Transform)
    → fold-Statement A step (Size op size field transforms) ≡ step (Statement-F.Size op size field transforms)
folded-Size {A} step op size field transforms = ap (fold-Statement A step) (sym (rolls-Size op size field transforms)) ∙ fold-roll-Statement A step (Statement-F.Size op size field transforms)

pub folded-Regex : {A : Type 0} (step : Statement-F A → A) (pattern : Pattern) (field : Field) (transforms : List Transform)
    → fold-Statement A step (Regex pattern field transforms) ≡ step (Statement-F.Regex pattern field transforms)
folded-Regex {A} step pattern field transforms = ap (fold-Statement A step) (sym (rolls-Regex pattern field transforms)) ∙ fold-roll-Statement A step (Statement-F.Regex pattern field transforms)

pub folded-PatternSet : {A : Type 0} (step : Statement-F A → A) (arn : List ℕ) (field : Field) (transforms : List Transform) (source : List ℕ)
    → fold-Statement A step (PatternSet arn field transforms source) ≡ step (Statement-F.PatternSet arn field transforms source)
folded-PatternSet {A} step arn field transforms source =
    ap (fold-Statement A step) (sym (rolls-PatternSet arn field transforms source)) ∙ fold-roll-Statement A step (Statement-F.PatternSet arn field transforms source)

pub folded-Ip : {A : Type 0} (step : Statement-F A → A) (arn : List ℕ) (forwarded : Option Forwarded) → fold-Statement A step (Ip arn forwarded) ≡ step (Statement-F.Ip arn forwarded)
folded-Ip {A} step arn forwarded = ap (fold-Statement A step) (sym (rolls-Ip arn forwarded)) ∙ fold-roll-Statement A step (Statement-F.Ip arn forwarded)

pub folded-Label : {A : Type 0} (step : Statement-F A → A) (scope : LabelScope) (key : List ℕ) → fold-Statement A step (Label scope key) ≡ step (Statement-F.Label scope key)
folded-Label {A} step scope key = ap (fold-Statement A step) (sym (rolls-Label scope key)) ∙ fold-roll-Statement A step (Statement-F.Label scope key)

pub folded-And : {A : Type 0} (step : Statement-F A → A) (parts : List Statement) → fold-Statement A step (And parts) ≡ step (Statement-F.And (map (fold-Statement A step) parts))
folded-And {A} step parts = ap (fold-Statement A step) (sym (rolls-And parts)) ∙ fold-roll-Statement A step (Statement-F.And parts)

pub folded-Or : {A : Type 0} (step : Statement-F A → A) (parts : List Statement) → fold-Statement A step (Or parts) ≡ step (Statement-F.Or (map (fold-Statement A step) parts))
folded-Or {A} step parts = ap (fold-Statement A step) (sym (rolls-Or parts)) ∙ fold-roll-Statement A step (Statement-F.Or parts)

pub folded-Not : {A : Type 0} (step : Statement-F A → A) (part : Statement) → fold-Statement A step (Not part) ≡ step (Statement-F.Not (fold-Statement A step part))
folded-Not {A} step part = ap (fold-Statement A step) (sym (rolls-Not part)) ∙ fold-roll-Statement A step (Statement-F.Not part)

pub folded-Rate-None : {A : Type 0} (step : Statement-F A → A) (key : List ℕ) (custom_keys : ℕ) → fold-Statement A step (Rate key custom_keys None) ≡ step (Statement-F.Rate key custom_keys None)
folded-Rate-None {A} step key custom_keys = ap (fold-Statement A step) (sym (rolls-Rate key custom_keys None)) ∙ fold-roll-Statement A step (Statement-F.Rate key custom_keys None)

pub folded-Rate-Some : {A : Type 0} (step : Statement-F A → A) (key : List ℕ) (custom_keys : ℕ) (scope_down : Statement)
    → fold-Statement A step (Rate key custom_keys (Some scope_down)) ≡ step (Statement-F.Rate key custom_keys (Some (fold-Statement A step scope_down)))
folded-Rate-Some {A} step key custom_keys scope_down =
    ap (fold-Statement A step) (sym (rolls-Rate key custom_keys (Some scope_down))) ∙ fold-roll-Statement A step (Statement-F.Rate key custom_keys (Some scope_down))

pub folded-Opaque : {A : Type 0} (step : Statement-F A → A) (key : List ℕ) (cost : Option ℕ) (arn : Option (List ℕ)) → fold-Statement A step (Opaque key cost arn) ≡ step (Statement-F.Opaque key cost arn)
folded-Opaque {A} step key cost arn = ap (fold-Statement A step) (sym (rolls-Opaque key cost arn)) ∙ fold-roll-Statement A step (Statement-F.Opaque key cost arn)
