use Rattle.std.proofs.Common.{◌≡◌, Some, sym, ap, ◌∙◌}
use Rattle.waf_model.specs.Within.{value_of_header}
use Rattle.match_eval.proofs.address_test.forwarded_holds.Goals as goal

pub returns-in-Some : goal.returns-in-Some
returns-in-Some c =
    let shown : value_of_header c.args.request.now c.args.forwarded.now.header ≡ Some c.in-Some.value.now =
    ap (value_of_header c.args.request.now) (sym c.bytes.ensures) ∙ sym c.in-Some.ensures in
    rw shown c.value_holds.ensures
