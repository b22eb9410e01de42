use Rattle.std.proofs.Common.{◌≡◌, ℕ, List, [], ◌∷◌, length, Bool, true, false, ◌==◌, refl, sym, ◌∙◌, arith}
use Rattle.std.proofs.lemmas.Bool.{eqb-true}
use Rattle.pattern_read.specs.Machine.{first}
use Rattle.pattern_read.specs.Seen.{piece_of}
use Rattle.pattern_read.proofs.Going.{going_moves, going_stuck, going_refused, going_ends}
use Rattle.pattern_read.proofs.read.state_of.Goals as goal

not_empty : (xs : List ℕ) (b : Bool) → b ≡ (length xs == 0) → b ≡ false → xs ≡ [] → ⊥
not_empty [] b is still e = absurd (cc)
not_empty (x ∷ xs) b is still e = absurd (cc)

is_nil : (xs : List ℕ) (b : Bool) → b ≡ (length xs == 0) → b ≡ true → xs ≡ []
is_nil [] b is so = refl
is_nil (x ∷ xs) b is so = let none : length (x ∷ xs) ≡ 0 = eqb-true (length (x ∷ xs)) 0 (sym is ∙ so) in absurd (omega arith)

pub returns-in_default : goal.returns-in_default
returns-in_default c = λ to h.
    going_stuck c.args.fold c.args.text.now first c.loop-rest.rest.now c.loop-rest.state to c.loop-rest.invariant
    (not_empty c.loop-rest.rest.now c.is_empty.result c.is_empty.ensures c.loop-rest-test.true)
    (rw c.in_default.is at c.in_ok-piece.ensures.value) h

pub returns-in_default-2 : goal.returns-in_default-2
returns-in_default-2 c = λ to h.
    going_refused c.args.fold c.args.text.now first c.loop-rest.rest.now c.in-Some.next.now (piece_of c.in-Some.piece) c.loop-rest.state to
    c.loop-rest.invariant (rw c.in-Some.is at c.in_ok-piece.ensures.value) (sym c.in_ok-moved.ensures ∙ c.in_default-2.is) h

pub loop-rest-preserved : goal.loop-rest-preserved
loop-rest-preserved c =
    going_moves c.args.fold c.args.text.now first c.loop-rest.rest.now c.in-Some.next.now (piece_of c.in-Some.piece) c.loop-rest.state c.in-Some-2.moved
    c.loop-rest.invariant (rw c.in-Some.is at c.in_ok-piece.ensures.value) (sym c.in_ok-moved.ensures ∙ c.in-Some-2.is)

pub returns : goal.returns
returns c =
    going_ends c.args.fold c.args.text.now first c.loop-rest.rest.now c.loop-rest.state c.loop-rest.invariant
    (is_nil c.loop-rest.rest.now c.is_empty.result c.is_empty.ensures c.loop-rest-test.false)
