-- What is asked of a text, as the code has it.
use Rattle.std.specs.Prelude.{[], ◌∷◌}
use Rattle.waf_model.specs.Passes as passes
use Rattle.match_eval.specs.declared.text_test.Asked.{Asked}
use Rattle.match_eval.specs.declared.text_test.Asked.TheVariants as asked

-- the test that it stands for
abbrev pub test_of : Asked → passes.Test
test_of (asked.Search position text) = passes.search position text.now
test_of (asked.Size op bytes) = passes.size op bytes
test_of (asked.Pattern one) = passes.patterns (one ∷ [])
test_of (asked.Patterns all) = passes.patterns all.now
