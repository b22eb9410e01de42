use Rattle.std.proofs.Common.{sym, ◌∙◌, true≢false}
use Rattle.ip_text.proofs.EightGroups.{eight_from, eight_none}
use Rattle.ip_text.proofs.ipv6.eight_groups.Goals as goal

pub returns-then-has_dot : goal.returns-then-has_dot
returns-then-has_dot c = eight_none c.args.text.now λ segments h. true≢false (sym c.if-has_dot.true ∙ c.has_dot.ensures ∙ h.1)

pub returns-in-Ok : goal.returns-in-Ok
returns-in-Ok c = sym (eight_from c.args.text.now c.segments.result (rw c.segments.ensures c.in-Ok.ensures) (sym c.has_dot.ensures ∙ c.if-has_dot.false))

pub returns-in-Err : goal.returns-in-Err
returns-in-Err c = eight_none c.args.text.now λ segments h. c.in-Err.ensures (record { segments = segments }) h.0
