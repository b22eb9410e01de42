use Rattle.std.proofs.Common.{◌∙◌}
use Rattle.wafreview_run.proofs.TakenMore.{took_more}
use Rattle.wafreview_run.proofs.writing.write_all.Goals as goal

pub loop-rest-preserved : goal.loop-rest-preserved
loop-rest-preserved g c =
    let so_far = c.loop-rest.invariant in (
      took_more _ _ _ c.args.text.now c.loop-rest.rest.now c.in_ok-rest.rest.now so_far.0 c.in_ok-rest.ensures.taken,
      c.in_ok-rest.ensures.level ∙ so_far.1,
    )
