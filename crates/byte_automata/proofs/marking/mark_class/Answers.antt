use Rattle.std.proofs.Common.{◌≡◌, length, get_or, arith, sym, ap, ◌∙◌, subst}
use Rattle.std.specs.List.{Contains}
use Rattle.std.proofs.lemmas.List.{get_or_default}
use Rattle.std.proofs.lemmas.List.Elements.{Contains-get_or}
use Rattle.byte_automata.specs.Splitting.{list_at}
use Rattle.byte_automata.proofs.Marks.{class-more, class-skip, class-marked}
use Rattle.byte_automata.proofs.marking.mark_class.Goals as goal
use Rattle.byte_automata.proofs.marking.mark_class.Goals.{then-index-class+in_ok-mark_all, else-index-class}

pub index-requires : goal.index-requires
index-requires c =
    let state = get_or c.of-state-items.result.now c.loop-state.state-index 0 in
    let l = c.requires.within c.args.class state (subst (λ t. Contains t state) c.of-state-items.ensures (Contains-get_or c.of-state-items.result.now c.loop-state.state-index 0 (omega arith))) in
    omega (arith, l, c.args.parts.now.of.ok.0)

pub of-requires : goal.of-requires
of-requires c =
    let state = get_or c.of-state-items.result.now c.loop-state.state-index 0 in
    let l = c.requires.within c.args.class state (subst (λ t. Contains t state) c.of-state-items.ensures (Contains-get_or c.of-state-items.result.now c.loop-state.state-index 0 (omega arith))) in
    omega (arith, l, c.requires.sources)

pub loop-state-preserved : goal.loop-state-preserved
loop-state-preserved c =
    let classes = c.args.parts.now.of.items in
    let members = c.args.parts.now.members in
    let sources = c.args.sources.now in
    let i = c.loop-state.state-index in
    let state = get_or c.of-state-items.result.now i 0 in
    let l = c.requires.within c.args.class state (subst (λ t. Contains t state) c.of-state-items.ensures (Contains-get_or c.of-state-items.result.now i 0 (omega arith))) in
    let class : c.index.result.now ≡ get_or classes state 0 = c.index.ensures ∙ get_or_default classes state c.index.result.now 0 l in
    let at : state ≡ get_or (list_at members c.args.class) i 0 = ap (λ t. get_or t i 0) c.of-state-items.ensures in
    elim c.if-index-class.branch [
      | then-index-class+in_ok-mark_all w ↦
          rw w.marked-is (class-more classes members sources c.args.class i state w.of.result.now c.args.marked.now c.loop-state.marked w.mark_all.new.marked at (sym class ∙ w.if-index-class.true) w.of.ensures c.loop-state.invariant w.in_ok-mark_all.ensures)
      | else-index-class w ↦ rw w.marked-is (class-skip classes members sources c.args.class i state c.args.marked.now c.loop-state.marked at (λ e. w.if-index-class.false (class ∙ e)) c.loop-state.invariant)
    ]

pub returns : goal.returns
returns c =
    class-marked c.args.parts.now.of.items c.args.parts.now.members c.args.sources.now c.args.class c.loop-state.state-index c.args.marked.now c.loop-state.marked
    (let n : c.loop-state.state-index ≡ length c.of-state-items.result.now = omega (arith, c.loop-state-test.false, c.loop-state.auto.state-index-end) in n ∙ ap length c.of-state-items.ensures) c.loop-state.invariant
