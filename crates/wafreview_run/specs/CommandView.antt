-- A command of the code as a command of the grammar.
use Rattle.std.specs.Prelude.{option_map}
use Rattle.wafreview_run.specs.CommandLine.{Command, evaluate, capacity, keys, review, impact}
use Rattle.wafreview_run.specs.declared.command.Command as code
use Rattle.wafreview_run.specs.declared.command.Command.TheVariants as variants

abbrev pub command_view : code.Command → Command
command_view (variants.Evaluate bundle request answers) = evaluate bundle.now request.now (option_map (λ name. name.now) answers)
command_view (variants.Capacity bundle) = capacity bundle.now
command_view (variants.Keys bundle) = keys bundle.now
command_view (variants.Review old new) = review old.now new.now
command_view (variants.Impact old new log answers) = impact old.now new.now log.now (option_map (λ name. name.now) answers)
