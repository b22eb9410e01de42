use Rattle.byte_automata.proofs.Parting.{parts-grow}
use Rattle.byte_automata.proofs.parts.grow.Goals as goal

pub returns-clause-parts : goal.returns-clause-parts
returns-clause-parts c =
    parts-grow c.args.states c.args.base c.args.count c.args.parts.now.of.items c.args.parts.now.members c.grow.new.self c.args.parts.now.sizes c.grow-2.new.self c.requires.count c.requires.parts c.in_ok-grow.ensures.count c.in_ok-grow.ensures.kept c.in_ok-grow-2.ensures
