use Rattle.std.proofs.Common.{◌≡◌, ◌++◌, ◌∷◌, drop, false}
use Rattle.serde_json.specs.Written.{items_text}
use Rattle.key_text.specs.Keys.{text_items}
use Rattle.key_text.proofs.patterns.list_text.Given as goal

abbrev pub invariant-loop-text : goal.invariant-loop-text
invariant-loop-text l = l.list ++ items_text l.later (text_items (drop l.text-index l.texts)) ≡ 91 ∷ items_text false (text_items l.texts)
