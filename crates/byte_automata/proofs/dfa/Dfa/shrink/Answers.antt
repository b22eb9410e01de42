use Rattle.std.proofs.Common.{◌≡◌, ℕ, List, Result, Ok, Err, IfOk}
use Rattle.byte_automata.specs.Automaton.{accepts}
use Rattle.byte_automata.specs.Least.{IsLeast, IsNumbered, Renumbers}
use Rattle.byte_automata.proofs.Redirects.{least-from, language-from}
use Rattle.byte_automata.proofs.dfa.Dfa.shrink.Goals as goal

if_both : {T E : Type 0} (r : Result T E) (P Q R : T → Type 0) → ((x : T) → P x → Q x → R x) → IfOk r P → IfOk r Q → IfOk r R
if_both (Ok x) P Q R f p q = f x p q
if_both (Err e) P Q R f p q = tt

pub returns-clause-language : goal.returns-clause-language
returns-clause-language c =
    if_both c.renumbered.result (Renumbers c.in_ok-redirected.redirected) IsNumbered (λ least. (text : List ℕ) → accepts least text ≡ accepts c.args.self text)
    (λ x m n. language-from c.args.self c.in_ok-redirected.redirected x c.in_ok-redirected.ensures m n) c.renumbered.ensures.renumbers c.renumbered.ensures.numbered

pub returns-clause-least : goal.returns-clause-least
returns-clause-least c =
    if_both c.renumbered.result (Renumbers c.in_ok-redirected.redirected) IsNumbered IsLeast
    (λ x m n. least-from c.args.self c.in_ok-redirected.redirected x c.in_ok-redirected.ensures m n) c.renumbered.ensures.renumbers c.renumbered.ensures.numbered
