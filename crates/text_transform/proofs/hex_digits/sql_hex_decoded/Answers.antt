use Rattle.std.proofs.Common.{sym, ap, ◌∙◌}
use Rattle.std.proofs.lemmas.List.{nil_from_length, take_rest}
use Rattle.waf_model.specs.TransformHex.{sql_hex_decoded as sql_hex_decoded_of}
use Rattle.text_transform.proofs.PairLemmas.{plain_step, literal_written, nothing}
use Rattle.text_transform.proofs.Filling.{wrote, finished}
use Rattle.text_transform.proofs.hex_digits.sql_hex_decoded.Goals as goal

pub loop-first-preserved-then-begins_literal : goal.loop-first-preserved-then-begins_literal
loop-first-preserved-then-begins_literal c =
    rw c.in_ok-rest.ensures.bytes
    (literal_written c.loop-first.text.items _ c.loop-first.rest.now _ _ _ _ c.loop-first.invariant c.in-Some.ensures.cases.0
    (sym c.begins_literal.ensures ∙ c.if-begins_literal.true) (take_rest c.loop-first.rest.now 2) c.in_ok-rest.ensures.rest)

pub loop-first-preserved : goal.loop-first-preserved
loop-first-preserved c =
    rw c.in_ok-push.ensures.items
    (wrote c.loop-first.text.items _ _ _ _ c.loop-first.invariant
    (plain_step c.loop-first.rest.now _ _ c.in-Some.ensures.cases.0 (sym c.begins_literal.ensures ∙ c.if-begins_literal.false)))

pub returns : goal.returns
returns c =
    finished c.loop-first.text.items _ _ c.loop-first.invariant
    (ap sql_hex_decoded_of (nil_from_length c.loop-first.rest.now c.in_default.ensures.cases) ∙ nothing)
