use Rattle.parting_build.proofs.PathOnly.{alike_everywhere}
use Rattle.parting_build.proofs.PlainForm.{has_path_rules}
use Rattle.parting_build.proofs.revisions.find_parting.Goals as goal

pub returns-in_ok-found-in-None-2-clause-none : goal.returns-in_ok-found-in-None-2-clause-none
returns-in_ok-found-in-None-2-clause-none c = λ none.
    let path = c.in_ok-path-in-None-2 in
    let at_old = c.in_ok-parting.ensures.none c.in-None.is in
    let at_new = c.in_ok-parting-in-None.ensures.none c.in-None-2.is in
    let at_path = c.in_ok-found-in-None-2.ensures.none none in
    alike_everywhere c.args.old.now c.args.new.now path.path (has_path_rules c.args.old.now c.requires.old_plain) (has_path_rules c.args.new.now c.requires.new_plain)
    (rw c.as_slice-old_rules.ensures at at_old) (rw c.as_slice-new_rules.ensures at at_new)
    (rw c.as_slice-old_rules.ensures at path.ensures.old) (rw c.as_slice-new_rules.ensures at path.ensures.new)
    ((rw c.bytes.ensures at at_path) path.ensures.path)
