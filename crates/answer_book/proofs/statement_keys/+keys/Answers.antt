use Rattle.std.proofs.Common.{ap, sym}
use Rattle.std.proofs.lemmas.List.Folds.{flat_map-map}
use Rattle.answer_book.specs.Keys.{keys_in, put_all, text_order}
use Rattle.answer_book.proofs.statement_keys.+keys.Goals as goal

pub add_parts-loop-part-init : goal.add_parts-loop-part-init
add_parts-loop-part-init t c = ap (put_all text_order c.args.found.now) (sym (flat_map-map (λ part. part) keys_in c.args.parts.now))
