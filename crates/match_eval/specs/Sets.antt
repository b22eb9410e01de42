-- Which bundle's sets are prepared, and which statement is.
use Rattle.std.specs.Prelude.{◌≡◌, []}
use Rattle.waf_model.specs.declared.bundle.Bundle.{Bundle}
use Rattle.waf_model.specs.Holds.{condition}
use Rattle.waf_model.specs.declared.statement.Statement.{Statement}
use Rattle.match_eval.specs.Ready.{condition_of}
use Rattle.match_eval.specs.declared.ready.Ready.{Ready}
use Rattle.match_eval.specs.declared.sets.Sets.{Sets}

-- the prepared sets are those of the bundle, in their order, and a set that it lacks has no ranges
pub record AreSetsOf (bundle : Bundle) (sets : Sets) : Type 0 where
  pub addresses : sets.addresses.items ≡ bundle.ip_sets
  pub patterns : sets.patterns.items ≡ bundle.regex_sets
  pub nowhere : sets.nowhere ≡ []

-- what is prepared tests the condition of that statement of the bundle
pub record IsReadyFor (bundle : Bundle) (statement : Statement) (ready : Ready) : Type 0 where
  pub same : condition_of ready.prepared ≡ condition bundle statement
