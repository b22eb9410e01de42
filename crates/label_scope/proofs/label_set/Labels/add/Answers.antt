use Rattle.std.proofs.Common.{◌∙◌}
use Rattle.label_scope.proofs.Inserts.{inserted}
use Rattle.label_scope.proofs.label_set.Labels.add.Goals as goal

pub returns-clause-ok : goal.returns-clause-ok
returns-clause-ok c = inserted (λ t. t.items) c.self.inside.texts.keys c.insert.new.self.keys c.in_ok-text.text c.args.self.now c.args.label
    c.in_ok-insert.ensures.keys c.self.view_is (c.in_ok-text.ensures.items ∙ c.bytes.ensures)
