use Rattle.std.proofs.Common.{◌≡◌, drop, map}
use Rattle.std.specs.List.{flat_map}
use Rattle.answer_book.specs.Keys.{keys_in, put_all, text_order}
use Rattle.answer_book.proofs.statement_keys.+keys.Given as goal

-- those so far with those of the rest are all
abbrev pub invariant-add_parts-loop-part : goal.invariant-add_parts-loop-part
invariant-add_parts-loop-part l =
    put_all text_order l.found (flat_map keys_in (drop l.part-index l.parts)) ≡ put_all text_order l.initial.found (flat_map (λ part. part) (map keys_in l.parts))
