-- What a prepared statement tests.
use Rattle.waf_model.specs.Holds.{Condition, tested, addressed, labelled, answered, opposite, all_of, any_of, both}
use Rattle.match_eval.specs.Asked.{test_of}
use Rattle.match_eval.specs.declared.prepared.Prepared.{Prepared}
use Rattle.match_eval.specs.declared.prepared.Prepared.TheOpen.{Prepared-F}
use Rattle.match_eval.specs.declared.prepared.Prepared.TheFolds.{fold-Prepared}

-- one prepared statement, with the condition of each part in its place
abbrev pub prepared_step : Prepared-F Condition → Condition
prepared_step (Prepared-F.Tested asked field transforms) = tested (test_of asked) field.now transforms.now
prepared_step (Prepared-F.Addressed cover forwarded) = addressed cover.now forwarded.now
prepared_step (Prepared-F.Labelled scope key) = labelled scope key.now
prepared_step (Prepared-F.Answered key) = answered key.now
prepared_step (Prepared-F.All parts) = all_of parts
prepared_step (Prepared-F.Any parts) = any_of parts
prepared_step (Prepared-F.Not part) = opposite part
prepared_step (Prepared-F.Scoped scope key) = both scope (answered key.now)

-- the condition that it tests
abbrev pub condition_of : Prepared → Condition
condition_of = fold-Prepared Condition prepared_step
