-- Where the test of a field holds of a request.
use Rattle.std.specs.Prelude.{ℕ, List}
use Rattle.waf_model.specs.Holds.{FieldHolds, SomePasses, oversize_of}
use Rattle.waf_model.specs.Passes.{Test}
use Rattle.waf_model.specs.Shown.{is_oversized}
use Rattle.waf_model.specs.declared.field.Field.{Field}
use Rattle.waf_model.specs.declared.request.Request.{Request}
use Rattle.waf_model.specs.declared.transform.Transform.{Transform}

-- what a condition of a test says of the request
abbrev pub TestHolds : Test → Field → List Transform → Request → ℕ → Type 0
TestHolds test field transforms request body_limit =
    FieldHolds (is_oversized field request body_limit) (oversize_of field) (SomePasses test field transforms request body_limit)
