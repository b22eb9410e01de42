-- The order of decisions: Allow, Block by ascending code, Captcha, Challenge (this project's own).
use Rattle.std.specs.Prelude.{ℕ, Bool, true, false, nat_lt}
use Rattle.waf_model.specs.declared.action.Decision.{Decision}
use Rattle.waf_model.specs.declared.action.Decision.TheVariants.{Allow, Block, Captcha, Challenge}

-- the first decision stands before the other
abbrev pub decision_before : Decision → Decision → Bool
decision_before Allow Allow = false
decision_before Allow other = true
decision_before (Block code) (Block other) = nat_lt code other
decision_before (Block code) Captcha = true
decision_before (Block code) Challenge = true
decision_before Captcha Challenge = true
decision_before one other = false
