use Rattle.std.proofs.Common.{◌≡◌, ℕ, ◌≤◌, List, [], Bool, true, false, Some, None, sym, subst, ap, ◌∙◌, arith}
use Rattle.waf_model.specs.PatternGrammar.{Spells}
use Rattle.pattern_read.specs.Machine.{first, closed, Arrives}
use Rattle.pattern_read.specs.declared.group.Atom.{Atom}
use Rattle.pattern_read.specs.declared.state.State.{State}
use Rattle.pattern_read.proofs.SpelledLemmas.{only}
use Rattle.pattern_read.proofs.Spelling.{spelled, spells}
use Rattle.pattern_read.proofs.read.read_pattern.Goals as goal

-- the same text, as it was computed
to_computed : (fold computed : Bool) (text rest : List ℕ) (state : State) → computed ≡ fold → rest ≡ text →
    Arrives fold text first state → Arrives computed rest first state
to_computed fold computed text rest state same also h =
    subst (λ (f : Bool). Arrives f rest first state) (sym same) (subst (λ (t : List ℕ). Arrives fold t first state) (sym also) h)

from_computed : (fold computed : Bool) (text rest : List ℕ) (state : State) → computed ≡ fold → rest ≡ text →
    Arrives computed rest first state → Arrives fold text first state
from_computed fold computed text rest state same also h =
    subst (λ (f : Bool). Arrives f text first state) same (subst (λ (t : List ℕ). Arrives computed t first state) also h)

pub returns-in_default-clause-grammar : goal.returns-in_default-clause-grammar
returns-in_default-clause-grammar c = λ pattern h.
    let none = rw c.in_default.is at c.in_ok-state.ensures in
    let (state, so) = spelled c.args.text.now pattern h in
    none state (to_computed _ _ _ _ state c.is_folded.ensures c.body.ensures so.arrives)

pub returns-in_default-clause-spelled : goal.returns-in_default-clause-spelled
returns-in_default-clause-spelled c = only c.args.text.now None (returns-in_default-clause-grammar c)

pub returns-then-not-is_empty-clause-grammar : goal.returns-then-not-is_empty-clause-grammar
returns-then-not-is_empty-clause-grammar c = λ pattern h.
    let found = rw c.in-Some.is at c.in_ok-state.ensures in
    let (state, so) = spelled c.args.text.now pattern h in
    let same : state ≡ c.in-Some.state = found.1 state (to_computed _ _ _ _ state c.is_folded.ensures c.body.ensures so.arrives) in
    let done : c.in-Some.state.outer ≡ [] = sym (ap (λ (s : State). s.outer) same) ∙ so.closed_all in
    let shown : c.is_empty.result ≡ true = c.is_empty.ensures.1 done in
    let still : c.is_empty.result ≡ false = c.if-not-is_empty.true in
    absurd (cc)

pub returns-then-not-is_empty-clause-spelled : goal.returns-then-not-is_empty-clause-spelled
returns-then-not-is_empty-clause-spelled c = only c.args.text.now None (returns-then-not-is_empty-clause-grammar c)

pub returns-then-whole-gt-MOST_PLACES-clause-grammar : goal.returns-then-whole-gt-MOST_PLACES-clause-grammar
returns-then-whole-gt-MOST_PLACES-clause-grammar c = λ pattern h.
    let found = rw c.in-Some.is at c.in_ok-state.ensures in
    let (state, so) = spelled c.args.text.now pattern h in
    let same : state ≡ c.in-Some.state = found.1 state (to_computed _ _ _ _ state c.is_folded.ensures c.body.ensures so.arrives) in
    let few : (closed c.in-Some.state.group).places ≤ 2000 = subst (λ (s : State). (closed s.group).places ≤ 2000) same so.few in
    let here : c.in_ok-whole.whole.places ≤ 2000 = subst (λ (a : Atom). a.places ≤ 2000) (sym c.in_ok-whole.ensures) few in
    absurd (omega arith)

pub returns-then-whole-gt-MOST_PLACES-clause-spelled : goal.returns-then-whole-gt-MOST_PLACES-clause-spelled
returns-then-whole-gt-MOST_PLACES-clause-spelled c = only c.args.text.now None (returns-then-whole-gt-MOST_PLACES-clause-grammar c)

pub returns-clause-grammar : goal.returns-clause-grammar
returns-clause-grammar c =
    let found = rw c.in-Some.is at c.in_ok-state.ensures in
    let few : c.in_ok-whole.whole.places ≤ 2000 = omega arith in
    subst (λ (a : Atom). Spells c.args.text.now a.pattern) (sym c.in_ok-whole.ensures)
    (spells c.args.text.now c.in-Some.state (from_computed _ _ _ _ c.in-Some.state c.is_folded.ensures c.body.ensures found.0)
    (c.is_empty.ensures.0 c.if-not-is_empty.false)
    (subst (λ (a : Atom). a.places ≤ 2000) c.in_ok-whole.ensures few))

pub returns-clause-spelled : goal.returns-clause-spelled
returns-clause-spelled c = only c.args.text.now (Some c.in_ok-whole.whole.pattern) (returns-clause-grammar c)
