use Rattle.std.proofs.Common.{◌+◌, ◌<◌, length, get_or, reverse, take, refl, arith, sym, subst}
use Rattle.std.proofs.lemmas.List.{get_or_default}
use Rattle.byte_automata.specs.Classes.{Spells}
use Rattle.byte_automata.proofs.Grown.{grows-none, grows-twice}
use Rattle.byte_automata.proofs.Grouping.{spells-more, numbers-grow}
use Rattle.byte_automata.proofs.groups.row_id.Goals as goal

pub loop-edge-init : goal.loop-edge-init
loop-edge-init c = ((c.requires, refl), grows-none (λ _. Unit {0}) c.args.steps.now, λ h. h)

pub returns-in_default-clause-grown : goal.returns-in_default-clause-grown
returns-in_default-clause-grown c = grows-twice (λ _. Unit {0}) _ _ _ c.loop-edge.invariant.1 (numbers-grow _ _ _ _ c.in_ok-number.ensures.ok)

pub loop-edge-preserved : goal.loop-edge-preserved
loop-edge-preserved c =
    let i = c.loop-edge.edge-index in
    let row = c.args.row.now in
    let l : i < length row = omega arith in
    let g = numbers-grow _ _ _ _ c.in_ok-number.ensures.ok in (
      subst (Spells c.args.base c.number.new.self c.args.class (reverse (take (i + 1) row))) (sym c.in-Some.ensures.1)
          (spells-more c.args.base c.loop-edge.steps c.number.new.self c.args.class c.loop-edge.id c.in_ok-number.number i row (get_or row i (record { last = 0; to = 0 })) l (get_or_default row i _ _ l) c.loop-edge.invariant.0 g c.in_ok-number.ensures.ok.place),
      grows-twice (λ _. Unit {0}) _ _ _ c.loop-edge.invariant.1 g,
      λ h. c.in_ok-number.ensures.different,
    )
