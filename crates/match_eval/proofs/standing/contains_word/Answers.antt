use Rattle.std.proofs.Common.{ℕ, arith, below_more, refl, sym, ◌∙◌}
use Rattle.std.proofs.lemmas.Bool.{false≢true}
use Rattle.match_eval.specs.Standing.{IsWordAt}
use Rattle.match_eval.proofs.Places.{word_at, word_nowhere}
use Rattle.match_eval.proofs.standing.contains_word.Goals as goal

pub returns-then-is_word_at : goal.returns-then-is_word_at
returns-then-is_word_at c = (λ yes. word_at c.args.search.now c.args.text.now c.loop-at.at (c.is_word_at.ensures.0 c.if-is_word_at.true), λ word. refl)

pub loop-at-preserved : goal.loop-at-preserved
loop-at-preserved c = below_more (λ (k : ℕ). IsWordAt c.args.search.now c.args.text.now k → ⊥) c.loop-at.at c.loop-at.invariant (λ word. false≢true (sym c.if-is_word_at.false ∙ c.is_word_at.ensures.1 word))

pub returns : goal.returns
returns c = (
  λ no. absurd (false≢true no),
  λ word. absurd (word_nowhere c.args.search.now c.args.text.now (λ k below. c.loop-at.invariant k (omega arith)) word),
)
