use Rattle.std.proofs.Common.{◌∙◌, [], arith}
use Rattle.std.proofs.lemmas.List.{length_push}
use Rattle.byte_automata.proofs.Sourced.{empty-list}
use Rattle.byte_automata.proofs.lists.Lists.grow.Goals as goal

pub loop-list-preserved : goal.loop-list-preserved
loop-list-preserved c =
    let lists = c.loop-list.self-inside.lists.items in
    rw (c.in_ok-push.ensures.items, c.new.ensures) (omega (arith, c.loop-list.invariant.0, length_push lists []), λ list. empty-list lists list ∙ c.loop-list.invariant.1 list)
