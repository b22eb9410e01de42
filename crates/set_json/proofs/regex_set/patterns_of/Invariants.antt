use Rattle.std.proofs.Common.{◌≡◌, ◌++◌, ◌||◌, drop, filter_map, is_some, not}
use Rattle.std.specs.List.{list_any}
use Rattle.pattern_read.specs.Spelled.{pattern_spelled}
use Rattle.set_json.proofs.regex_set.patterns_of.Given as goal

-- what was found, with what is found of the rest, is what is found of all
abbrev pub invariant-loop-text : goal.invariant-loop-text
invariant-loop-text l =
    ((l.patterns ++ filter_map pattern_spelled (drop l.text-index l.texts)) ≡ filter_map pattern_spelled l.texts)
    × ((l.outside || list_any (λ text. not (is_some (pattern_spelled text))) (drop l.text-index l.texts)) ≡ list_any (λ text. not (is_some (pattern_spelled text))) l.texts)
