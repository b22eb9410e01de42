use Rattle.std.proofs.Common.{ap, ◌∙◌}
use Rattle.std.proofs.lemmas.List.{nil_from_length}
use Rattle.waf_model.specs.TransformEntities.{entities_decoded as entities_decoded_of}
use Rattle.text_transform.proofs.Filling.{finished}
use Rattle.text_transform.proofs.References.{reference_written, plain_written, shorter, nothing}
use Rattle.text_transform.proofs.entities.entities_decoded.Goals as goal

pub loop-first-preserved-in-Some-split_reference : goal.loop-first-preserved-in-Some-split_reference
loop-first-preserved-in-Some-split_reference c =
    rw c.in_ok-push.ensures.items
    (reference_written c.loop-first.text.items _ c.loop-first.rest.now _ _ c.in-Some-split_reference.byte c.in-Some-split_reference.behind.now
    c.loop-first.invariant c.in-Some.ensures.cases.0 c.in-Some-split_reference.ensures)

pub loop-first-smaller-in-Some-split_reference : goal.loop-first-smaller-in-Some-split_reference
loop-first-smaller-in-Some-split_reference c =
    shorter _ c.loop-first.rest.now _ _ c.in-Some-split_reference.byte c.in-Some-split_reference.behind.now c.in-Some.ensures.cases.0
    c.in-Some-split_reference.ensures

pub loop-first-preserved : goal.loop-first-preserved
loop-first-preserved c =
    rw c.in_ok-push-2.ensures.items
    (plain_written c.loop-first.text.items _ c.loop-first.rest.now _ _ c.loop-first.invariant c.in-Some.ensures.cases.0 c.in_default-split_reference.ensures)

pub returns : goal.returns
returns c =
    finished c.loop-first.text.items _ _ c.loop-first.invariant
    (ap entities_decoded_of (nil_from_length c.loop-first.rest.now c.in_default.ensures.cases) ∙ nothing)
