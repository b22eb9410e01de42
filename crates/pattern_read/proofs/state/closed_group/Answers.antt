use Rattle.std.proofs.Common.{◌≡◌, Some, refl, ap, ◌∙◌}
use Rattle.pattern_read.specs.Machine.{split_last}
use Rattle.pattern_read.proofs.Splits.{split_last-append}
use Rattle.pattern_read.proofs.state.closed_group.Goals as goal

pub returns : goal.returns
returns c =
    let split : split_last c.args.state.outer ≡ Some (c.pop.new.self, c.in-Some.around) =
    ap split_last c.in-Some.ensures ∙ split_last-append c.pop.new.self c.in-Some.around in
    rw (split, c.in_ok-group.ensures, c.in_ok-close.ensures) refl
