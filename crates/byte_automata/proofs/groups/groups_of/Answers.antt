use Rattle.std.proofs.Common.{◌≡◌, ◌<◌, length, get_or, reverse, arith, ap, ◌∙◌, subst}
use Rattle.byte_automata.specs.Classes.{Spells, class_row}
use Rattle.byte_automata.specs.Row.{joined, renamed}
use Rattle.byte_automata.proofs.Grouping.{IsGrouping, grouping-more, groups-from}
use Rattle.byte_automata.proofs.groups.groups_of.Goals as goal

pub marked-preserved : goal.marked-preserved
marked-preserved c =
    let i = c.marked.i in
    let classes = c.args.classes.now in
    let state = get_or c.args.marked.now i 0 in
    let class = get_or classes state 0 in
    let l : i < length c.args.marked.now = omega arith in
    let within : state < length c.args.dfa.now.states = c.requires.marked i 0 l in
    let small : class < c.args.base = c.requires.classes.below state 0 (omega (arith, within, c.requires.classes.lengths)) in
    let row : c.as_slice.result.now ≡ class_row c.args.dfa.now classes state = c.as_slice.ensures.value ∙ c.in_ok-renamed.ensures ∙ ap (λ e. joined (renamed (λ s. get_or classes s 0) e)) c.edges_of.ensures.edges in
    let spelled = subst (λ t. Spells c.args.base c.row_id.new.steps class (reverse t) c.in_ok-row.row) row c.in_ok-row.ensures.spells in
    rw c.in_ok-push.ensures.items
    (grouping-more c.args.dfa.now classes c.args.marked.now c.args.base c.marked.steps c.row_id.new.steps c.marked.kinds c.number.new.self c.marked.of.items i c.in_ok-row.row c.in_ok-number.field-0 small c.marked.invariant spelled c.row_id.ensures.grown c.row_id.ensures.different c.in_ok-number.ensures.ok c.in_ok-number.ensures.different)

pub returns-clause-groups : goal.returns-clause-groups
returns-clause-groups c =
    let n : c.marked.i ≡ length c.args.marked.now = omega (arith, c.marked-test.false, c.marked.auto.i-end) in
    groups-from c.args.dfa.now c.args.classes.now c.args.marked.now c.args.base c.marked.steps c.marked.kinds c.marked.of.items (subst (IsGrouping c.args.dfa.now c.args.classes.now c.args.marked.now c.args.base c.marked.steps c.marked.kinds c.marked.of.items) n c.marked.invariant)
