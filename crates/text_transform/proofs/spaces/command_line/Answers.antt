use Rattle.std.proofs.Common.{◌++◌, [], sym, ap, ◌∙◌, arith}
use Rattle.std.proofs.lemmas.List.{at_drop_all}
use Rattle.waf_model.specs.TransformSpaces.{command_line as command_line_of}
use Rattle.text_transform.proofs.Filling.{finished}
use Rattle.text_transform.proofs.CommandLine.{unwritten, mark_skipped, space_skipped, byte_written}
use Rattle.text_transform.proofs.spaces.command_line.Goals as goal
use Rattle.text_transform.proofs.spaces.command_line.Goals.{then-spaced+in_ok-push, else-spaced, then-is_between, else-is_between+then-not-is_mark+in_ok-push_byte, else-is_between+else-not-is_mark}

pub loop-byte-preserved : goal.loop-byte-preserved
loop-byte-preserved c =
    elim c.if-is_between.branch [
      | then-is_between w ↦ rw (w.text-is, w.spaced-is)
          (space_skipped c.args.w.now c.loop-byte.text.items _ c.loop-byte.byte-index c.loop-byte.spaced (omega arith)
          (sym c.is_between.ensures ∙ w.if-is_between.true) c.loop-byte.invariant)
      | else-is_between+then-not-is_mark+in_ok-push_byte w ↦ rw (w.text-is, w.spaced-is, w.in_ok-push_byte.ensures)
          (byte_written c.args.w.now c.loop-byte.text.items _ c.loop-byte.byte-index c.loop-byte.spaced (omega arith)
          (sym w.is_mark.ensures ∙ w.if-not-is_mark.true) (sym c.is_between.ensures ∙ w.if-is_between.false) c.loop-byte.invariant)
      | else-is_between+else-not-is_mark w ↦ rw (w.text-is, w.spaced-is)
          (mark_skipped c.args.w.now c.loop-byte.text.items _ c.loop-byte.byte-index c.loop-byte.spaced (omega arith)
          (sym w.is_mark.ensures ∙ w.if-not-is_mark.false) c.loop-byte.invariant)
    ]

pub returns : goal.returns
unfolding command_line_of
returns c =
    let left = at_drop_all (unwritten c.loop-byte.spaced) c.args.w.now c.loop-byte.byte-index (omega arith) in
    elim c.if-spaced.branch [
      | then-spaced+in_ok-push w ↦ rw (w.text-is, w.in_ok-push.ensures.items)
          (ap (λ l. c.loop-byte.text.items ++ l) (sym (left ∙ ap (λ r. unwritten r []) w.if-spaced.true)) ∙ c.loop-byte.invariant)
      | else-spaced w ↦ rw w.text-is
          (finished c.loop-byte.text.items _ _ c.loop-byte.invariant (left ∙ ap (λ r. unwritten r []) w.if-spaced.false))
    ]
