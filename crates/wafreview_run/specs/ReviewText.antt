-- The text of a review's answer (this project's own).
use Rattle.std.specs.Prelude.{ℕ, List, ◌++◌, codes, decimal}
use Rattle.waf_model.specs.Printed.{equal_text, different_text}
use Rattle.parting_build.specs.declared.verdict.Review.{Review}
use Rattle.parting_build.specs.declared.verdict.Review.TheVariants.{Equal, Different, Undecided}

abbrev pub review_text : Review → List ℕ
review_text Equal = equal_text
review_text (Different parting) = different_text parting.old parting.new parting.request parting.answers
review_text (Undecided made) = codes "review UNDECIDED " ++ decimal made ++ codes "\n"

-- the status of a review's answer
abbrev pub review_code : Review → ℕ
review_code Equal = 0
review_code (Different parting) = 1
review_code (Undecided made) = 5
