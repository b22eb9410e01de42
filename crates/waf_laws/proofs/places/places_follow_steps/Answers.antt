use Rattle.waf_laws.proofs.PlaceLaws.{same_statements, same_namespaces}
use Rattle.waf_laws.proofs.places.places_follow_steps.Goals as goal

pub returns-clause-statements : goal.returns-clause-statements
returns-clause-statements c = same_statements

pub returns-clause-namespaces : goal.returns-clause-namespaces
returns-clause-namespaces c = same_namespaces
