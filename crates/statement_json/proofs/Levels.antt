-- How many levels of statements are left.
use Rattle.std.proofs.Common.{◌≡◌, ℕ, zero, suc, ◌-◌, ◌<◌, List, Err, refl, ap, arith}
use Rattle.serde_json.specs.Data.{Data}
use Rattle.waf_model.specs.declared.read_fault.ReadFault.TheVariants as faults
use Rattle.waf_model.specs.declared.sets.RegexSet.{RegexSet}
use Rattle.statement_json.specs.Statements.{statement_by, statement_within}
use Rattle.statement_json.specs.declared.encoding.Encoding.{Encoding}

pub no_level : (levels : ℕ) (sets : List RegexSet) (encoding : Encoding) (d : Data) (path : List ℕ) (seen : ℕ) → levels ≡ 0 → statement_within levels sets encoding d path seen ≡ Err (faults.Shape path)
unfolding statement_within
no_level zero sets encoding d path seen none = refl
no_level (suc levels) sets encoding d path seen none = absurd (omega arith)

pub one_level : (levels : ℕ) (sets : List RegexSet) (encoding : Encoding) (d : Data) (path : List ℕ) (seen : ℕ) → 0 < levels
    → statement_within levels sets encoding d path seen ≡ statement_by (statement_within (levels - 1) sets encoding) sets encoding d path seen
unfolding statement_within
one_level zero sets encoding d path seen some = absurd (omega arith)
one_level (suc levels) sets encoding d path seen some =
    let less : levels ≡ suc levels - 1 = omega arith in
    ap (λ n. statement_by (statement_within n sets encoding) sets encoding d path seen) less
