use Rattle.std.proofs.Common.{sym, ap, ◌∙◌}
use Rattle.std.proofs.lemmas.List.{nil_from_length, take_rest}
use Rattle.waf_model.specs.TransformComments.{comments_replaced as comments_replaced_of}
use Rattle.text_transform.proofs.CommentLemmas.{plain_step, comment_written, nothing}
use Rattle.text_transform.proofs.Filling.{wrote, finished}
use Rattle.text_transform.proofs.comments.comments_replaced.Goals as goal

pub loop-first-preserved-then-starts_with : goal.loop-first-preserved-then-starts_with
loop-first-preserved-then-starts_with c =
    rw c.in_ok-push.ensures.items
    (comment_written c.loop-first.text.items _ c.loop-first.rest.now _ _ _ _ c.loop-first.invariant c.in-Some.ensures.cases.0
    (sym c.starts_with.ensures.value ∙ c.if-starts_with.true) (take_rest c.loop-first.rest.now 2) c.comment_rest.ensures.count)

pub loop-first-preserved : goal.loop-first-preserved
loop-first-preserved c =
    rw c.in_ok-push-2.ensures.items
    (wrote c.loop-first.text.items _ _ _ _ c.loop-first.invariant
    (plain_step c.loop-first.rest.now _ _ c.in-Some.ensures.cases.0 (sym c.starts_with.ensures.value ∙ c.if-starts_with.false)))

pub returns : goal.returns
returns c =
    finished c.loop-first.text.items _ _ c.loop-first.invariant
    (ap comments_replaced_of (nil_from_length c.loop-first.rest.now c.in_default.ensures.cases) ∙ nothing)
