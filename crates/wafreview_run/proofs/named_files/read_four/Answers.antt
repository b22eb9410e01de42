use Rattle.std.proofs.Common.{ℕ, List, [], ◌∷◌}
use Rattle.wafreview_run.specs.declared.role.Role.{Role}
use Rattle.wafreview_run.proofs.LaterEnd.{later}
use Rattle.wafreview_run.proofs.named_files.read_four.Goals as goal

pub returns-in-Err-clause-ended : goal.returns-in-Err-clause-ended
returns-in-Err-clause-ended g c =
    let files = g.F.Files in
    let before = c.args.files.now in
    let then = c.read_file.new.files in
    let after = c.read_three.new.files in
    let first : Role × List ℕ = (c.args.first.role, c.args.first.name.now) in
    let second : Role × List ℕ = (c.args.second.role, c.args.second.name.now) in
    let third : Role × List ℕ = (c.args.third.role, c.args.third.name.now) in
    let fourth : Role × List ℕ = (c.args.fourth.role, c.args.fourth.name.now) in
    later (files.tells before) (files.tells then) (files.sure before) (files.sure then) (files.faults before) (files.faults then) (files.faults after)
    (files.long_reads before) (files.long_reads then) (files.long_reads after) first (second ∷ third ∷ fourth ∷ []) c.in_ok-bytes.bytes.items c.in-Err.ended
    c.read_file.ensures.told c.read_file.ensures.stays_sure c.read_file.ensures.faults c.read_three.ensures.faults c.read_file.ensures.long_reads c.read_three.ensures.long_reads
    c.in_ok-bytes.ensures.bytes c.in-Err.ensures.ended
