use Rattle.std.proofs.Common.{sym, ◌∙◌}
use Rattle.std.proofs.lemmas.List.{take_rest}
use Rattle.text_transform.proofs.References.{split_hexadecimal, split_decimal}
use Rattle.text_transform.proofs.entities.split_reference.Goals as goal

pub returns-then-begins_hexadecimal : goal.returns-then-begins_hexadecimal
returns-then-begins_hexadecimal c =
    split_hexadecimal c.args.text.now _ c.split_number.result (sym c.begins_hexadecimal.ensures ∙ c.if-begins_hexadecimal.true)
    (take_rest c.args.text.now 3) c.split_number.ensures

pub returns-then-starts_with : goal.returns-then-starts_with
returns-then-starts_with c =
    split_decimal c.args.text.now _ _ (sym c.begins_hexadecimal.ensures ∙ c.if-begins_hexadecimal.false)
    (sym c.starts_with.ensures.value ∙ c.if-starts_with.true) (take_rest c.args.text.now 2) c.split_number-then-starts_with.ensures
