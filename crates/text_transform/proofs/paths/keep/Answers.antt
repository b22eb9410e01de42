use Rattle.std.proofs.Common.{length, sym, ap, ◌∙◌}
use Rattle.text_transform.specs.Segments.{ends_below, texts}
use Rattle.text_transform.proofs.Kept.{popped}
use Rattle.text_transform.proofs.paths.keep.Goals as goal

pub returns-then-ends_below : goal.returns-then-ends_below
returns-then-ends_below c =
    popped c.args.kept.now.items c.pop.new.self.items c.args.segment.now _
    (sym c.as_slice.ensures.len ∙ ap length c.as_slice.ensures.value) c.pop.ensures.rest
    (sym c.is_here.ensures ∙ c.if-is_here.false) (sym c.is_above.ensures ∙ c.if-is_above.true)
    (sym (ap (λ l. ends_below (texts l)) c.as_slice.ensures.value) ∙ sym c.ends_below.ensures ∙ c.if-ends_below.true)
