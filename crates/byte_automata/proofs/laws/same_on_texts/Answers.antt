use Rattle.byte_automata.proofs.Residuals.{language-bounded, least-on-texts}
use Rattle.byte_automata.proofs.laws.same_on_texts.Goals as goal

pub returns-clause-language : goal.returns-clause-language
returns-clause-language c = language-bounded c.args.one.now c.args.other.now c.states.ensures.whole c.states-2.ensures.whole c.requires

pub returns-clause-least : goal.returns-clause-least
returns-clause-least c = least-on-texts c.args.one.now c.args.other.now c.states.ensures.whole c.states-2.ensures.whole c.requires
