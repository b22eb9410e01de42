use Rattle.label_scope.proofs.VocabularyLaws.{each_has_one, no_two_agree, all_managed}
use Rattle.label_scope.proofs.laws.vocabulary_stands_for_labels.Goals as goal

pub returns-clause-each : goal.returns-clause-each
returns-clause-each c = each_has_one

pub returns-clause-apart : goal.returns-clause-apart
returns-clause-apart c = no_two_agree

pub returns-clause-managed : goal.returns-clause-managed
returns-clause-managed c = all_managed
