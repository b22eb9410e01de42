use Rattle.std.proofs.Common.{sym, ◌∙◌, arith}
use Rattle.std.proofs.lemmas.List.{at_drop_all}
use Rattle.waf_model.specs.TransformSpaces.{white_space_compressed as white_space_compressed_of}
use Rattle.text_transform.proofs.Filling.{finished}
use Rattle.text_transform.proofs.WhiteSpace.{unwritten, plain_written, space_written, space_skipped, nothing_left}
use Rattle.text_transform.proofs.spaces.white_space_compressed.Goals as goal
use Rattle.text_transform.proofs.spaces.white_space_compressed.Goals.{then-not-is_white_space+in_ok-push, else-not-is_white_space+then-not-in_run+in_ok-push-2, else-not-is_white_space+else-not-in_run}

pub loop-byte-preserved : goal.loop-byte-preserved
loop-byte-preserved c =
    elim c.if-not-is_white_space.branch [
      | then-not-is_white_space+in_ok-push w ↦ rw (w.text-is, w.in_run-is, w.in_ok-push.ensures.items)
          (plain_written c.args.w.now c.loop-byte.text.items _ c.loop-byte.byte-index c.loop-byte.in_run (omega arith)
          (sym c.is_white_space.ensures ∙ w.if-not-is_white_space.true) c.loop-byte.invariant)
      | else-not-is_white_space+then-not-in_run+in_ok-push-2 w ↦ rw (w.text-is, w.in_run-is, w.in_ok-push-2.ensures.items)
          (space_written c.args.w.now c.loop-byte.text.items _ c.loop-byte.byte-index (omega arith)
          (sym c.is_white_space.ensures ∙ w.if-not-is_white_space.false) (rw w.if-not-in_run.true at c.loop-byte.invariant))
      | else-not-is_white_space+else-not-in_run w ↦ rw (w.text-is, w.in_run-is, w.if-not-in_run.false)
          (space_skipped c.args.w.now c.loop-byte.text.items _ c.loop-byte.byte-index (omega arith)
          (sym c.is_white_space.ensures ∙ w.if-not-is_white_space.false) (rw w.if-not-in_run.false at c.loop-byte.invariant))
    ]

pub returns : goal.returns
unfolding white_space_compressed_of
returns c =
    finished c.loop-byte.text.items _ _ c.loop-byte.invariant
    (at_drop_all (unwritten c.loop-byte.in_run) c.args.w.now c.loop-byte.byte-index (omega arith) ∙ nothing_left c.loop-byte.in_run)
