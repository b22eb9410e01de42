use Rattle.std.proofs.Common.{◌≡◌, List, ◌+◌, All, map, drop, sum_by, subst, sym, ap, arith}
use Rattle.std.proofs.lemmas.List.Elements.{All-push}
use Rattle.std.proofs.lemmas.List.Sums.{sum_by_push}
use Rattle.serde_json.specs.Data.{Data}
use Rattle.serde_json.specs.View.{view}
use Rattle.json_view.proofs.Each.{view_at}
use Rattle.waf_model.specs.StatementCount.{group_count}
use Rattle.waf_model.specs.WebAcl.{IsSoundGroup}
use Rattle.waf_model.specs.declared.group.Group.{Group}
use Rattle.set_json.proofs.Behind.{Behind, behind_more}
use Rattle.set_json.proofs.groups.each_group.Goals as goal

pub loop-found-preserved : goal.loop-found-preserved
loop-found-preserved c =
    let Left : List Data → Type 0 = λ rest. Behind c.args.sets.now c.args.encoding c.loop-found.groups c.loop-found.index rest c.loop-found.seen (map view c.args.all.now) c.args.path.now c.args.seen.now in
    let next = subst Left (view_at c.args.all.now c.loop-found.found-index c.found-item.result (omega arith) c.found-item.is) c.loop-found.invariant.2 in
    let Now : List Group → Type 0 = λ groups. Behind c.args.sets.now c.args.encoding groups (c.loop-found.index + 1) (map view (drop (c.loop-found.found-index + 1) c.args.all.now)) c.wrapped_group.new.seen (map view c.args.all.now) c.args.path.now c.args.seen.now in (
      ap (λ n. n + 1) c.loop-found.invariant.0,
      c.in_ok-group.ensures.few,
      subst Now (sym c.in_ok-push.ensures.ok) (behind_more c.args.sets.now c.args.encoding _ _ _ _ _ _ c.in_ok-at.at _ _ _ c.in_ok-group.group next c.in_ok-at.ensures c.in_ok-group.ensures.reading),
      subst (All IsSoundGroup) (sym c.in_ok-push.ensures.ok) (All-push IsSoundGroup c.loop-found.groups c.in_ok-group.group c.loop-found.invariant.3 c.in_ok-group.ensures.sound),
      subst (λ (groups : List Group). c.args.seen.now + sum_by group_count groups ≡ c.wrapped_group.new.seen) (sym c.in_ok-push.ensures.ok)
          (omega (arith, sum_by_push group_count c.loop-found.groups c.in_ok-group.group, c.loop-found.invariant.4, c.in_ok-group.ensures.counted)),
    )
