use Rattle.std.proofs.Common.{arith}
use Rattle.parting_build.proofs.Unnamed.{is_path-of, too_many}
use Rattle.parting_build.proofs.named.unnamed_path.Goals as goal

pub returns-then-not-is_named-2-clause-path : goal.returns-then-not-is_named-2-clause-path
returns-then-not-is_named-2-clause-path c = rw c.loop.invariant.here (is_path-of c.loop.counter (omega arith))

pub unreachable-requires : goal.unreachable-requires
unreachable-requires c = too_many c.args.old.now c.args.new.now c.requires.old_count c.requires.new_count (λ k less. c.loop.invariant.shorter k (omega arith))
