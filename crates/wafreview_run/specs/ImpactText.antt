-- The text and the status of what a log says of two revisions (this project's own).
use Rattle.std.specs.Prelude.{ℕ, List, [], ◌∷◌, ◌++◌, codes, decimal, length}
use Rattle.std.specs.List.{flat_map}
use Rattle.impact_replay.specs.declared.impact.Change.{Change}
use Rattle.impact_replay.specs.declared.impact.Impact.{Impact}
use Rattle.waf_model.specs.Printed.{decision_name}

-- a line that is decided otherwise, by its number, with both decisions
abbrev pub change_line : Change → List ℕ
change_line change = codes "line " ++ decimal change.line ++ codes " old " ++ decision_name change.old ++ codes " new " ++ decision_name change.new ++ codes "\n"

-- how many lines were replayed, and how many of them are decided otherwise
abbrev pub impact_line : ℕ → ℕ → List ℕ
impact_line lines changed = codes "impact lines " ++ decimal lines ++ codes " changed " ++ decimal changed ++ codes "\n"

-- a line for each change, and then the counts
abbrev pub impact_text : Impact → List ℕ
impact_text impact = flat_map change_line impact.changed ++ impact_line impact.lines (length impact.changed)

-- 1 where some line is decided otherwise
abbrev pub changed_code : List Change → ℕ
changed_code [] = 0
changed_code (change ∷ changes) = 1
