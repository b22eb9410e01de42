use Rattle.byte_automata.proofs.Numbered.{different_from_distinct, numbers_from_insert}
use Rattle.byte_automata.proofs.numbering.Numbering.number.Goals as goal

pub returns-then-len-clause-different : goal.returns-then-len-clause-different
returns-then-len-clause-different g c = different_from_distinct g.T.PartialEq.eq c.requires c.args.self.now (rw c.self.view_is at c.len.ensures.unique)

pub returns-in_err-number-clause-different : goal.returns-in_err-number-clause-different
returns-in_err-number-clause-different g c = different_from_distinct g.T.PartialEq.eq c.requires _ c.insert_full.ensures.unique

pub returns-clause-ok : goal.returns-clause-ok
returns-clause-ok g c = numbers_from_insert g.T.PartialEq.eq c.requires c.args.self.now c.insert_full.new.self.keys c.args.item c.in_ok-number.number (rw c.self.view_is at c.in_ok-number.ensures.keys) c.in_ok-number.ensures.stored

pub returns-clause-different : goal.returns-clause-different
returns-clause-different g c = different_from_distinct g.T.PartialEq.eq c.requires _ c.insert_full.ensures.unique
