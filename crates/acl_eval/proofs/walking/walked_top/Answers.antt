use Rattle.std.proofs.Common.{◌≡◌, map, sym, ap, subst, ◌∙◌}
use Rattle.acl_eval.specs.Preparation.{IsReadyBody, IsReadyGroup}
use Rattle.acl_eval.specs.declared.ready_top.ReadyBody.{ReadyBody}
use Rattle.acl_eval.proofs.Referred.{found_is, referred_steps, walk_same}
use Rattle.waf_model.specs.Steps.{group_step, steps_of}
use Rattle.waf_model.specs.declared.group.Group.{Group}
use Rattle.waf_model.specs.declared.rule.Top.{Top}
use Rattle.waf_model.specs.declared.rule.Top.TheVariants as tops
use Rattle.acl_eval.proofs.walking.walked_top.Goals as goal

pub returns-in-Group : goal.returns-in-Group
returns-in-Group c = λ groups is.
    let body : c.args.ready.now.top.now.body ≡ tops.Group c.in-Group.use_of.now =
    subst (λ (b : ReadyBody). IsReadyBody c.args.case.bundle.now c.args.ready.now.top.now.body b) c.in-Group.is is in
    walk_same c.args.case.bundle.now c.args.case.request.now c.args.case.answers.now c.args.ready.now.top.now.place _
    (steps_of c.args.case.bundle.now c.args.ready.now.top.now c.args.ready.now.top.now.body) c.args.labels.now c.walked_group.new.labels c.walked_group.result
    (referred_steps (λ (group : Group). map (group_step c.args.ready.now.top.now c.in-Group.use_of.now group) group.rules) c.in-Group.use_of.now.arn c.args.groups.now
    c.args.case.bundle.now.groups _ groups.are c.referred_ready-group.ensures
    ∙ ap (λ (b : Top). steps_of c.args.case.bundle.now c.args.ready.now.top.now b) (sym body))
    (c.walked_group.ensures (rw c.referred_ready-group.ensures (found_is (IsReadyGroup c.args.case.bundle.now) c.in-Group.use_of.now.arn c.args.groups.now groups.each)))
