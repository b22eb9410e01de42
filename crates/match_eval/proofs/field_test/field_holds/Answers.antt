use Rattle.std.proofs.Common.{sym, ◌∙◌}
use Rattle.match_eval.proofs.Fields.{inspected_whole, inspected_so_far}
use Rattle.match_eval.proofs.field_test.field_holds.Goals as goal

pub returns-in-Continue : goal.returns-in-Continue
returns-in-Continue c = inspected_so_far c.some_shown_passes.result _ _ _ (c.oversized.ensures.0 c.if-oversized.true)
    (sym c.oversize_of.ensures ∙ c.in-Continue.is) c.some_shown_passes.ensures

pub returns-else-oversized : goal.returns-else-oversized
returns-else-oversized c =
    inspected_whole c.some_shown_passes-else-oversized.result _ _ _ _ c.oversized.ensures c.if-oversized.false c.some_shown_passes-else-oversized.ensures
