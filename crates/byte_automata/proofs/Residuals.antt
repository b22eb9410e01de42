-- Texts of bytes tell the language of an automaton, and the residuals of a language are the states of its least automaton.
use Rattle.std.proofs.Common.{◌≡◌, ℕ, ◌<◌, ◌≤◌, ◌⊎◌, ◌↔◌, min, List, [], ◌∷◌, length, refl, sym, ap, ◌∙◌, inl, inr, arith}
use Rattle.std.proofs.lemmas.Bool.{cases_lt}
use Rattle.std.proofs.lemmas.List.Elements.{All-cons}
use Rattle.waf_base.specs.Members.{Exactly}
use Rattle.byte_automata.specs.Automaton.{Automaton, IsWhole, state_at, next, ends, accepts}
use Rattle.byte_automata.specs.Least.{SameLanguage, IsLeast}
use Rattle.byte_automata.specs.Texts.{IsText, SameOnTexts, SameAfter}
use Rattle.byte_automata.proofs.Canonical.{least-equal}
use Rattle.byte_automata.proofs.Rows.{target_after-above}
use Rattle.byte_automata.proofs.Runs.{next-within, ends-within, ends-append}

-- the text with 255 in place of each greater number
abbrev pub bounded : List ℕ → List ℕ
bounded [] = []
bounded (byte ∷ text) = min byte 255 ∷ bounded text

pub text-none : IsText []
text-none = λ k d l. absurd (omega (arith, l))

pub bounded-text : (text : List ℕ) → IsText (bounded text)
bounded-text [] = text-none
bounded-text (byte ∷ text) = All-cons (λ b. b < 256) (min byte 255) (bounded text) (omega arith) (bounded-text text)

-- a number above 255 leads where 255 leads
next-bounded : (d : Automaton) → IsWhole d → (state byte : ℕ) → state < length d.states → next d state (min byte 255) ≡ next d state byte
next-bounded d w state byte l =
    elim (cases_lt byte 255) [
      | inl lt ↦ ap (λ b. next d state b) (let e : min byte 255 ≡ byte = omega (arith, lt) in e)
      | inr ge ↦ ap (λ b. next d state b) (let e : min byte 255 ≡ 255 = omega (arith, ge) in e) ∙ sym (target_after-above 0 0 (state_at d state).edges byte (w.rows state _ l) ge)
    ]

pub ends-bounded : (d : Automaton) → IsWhole d → (state : ℕ) (text : List ℕ) → state < length d.states → ends d state (bounded text) ≡ ends d state text
ends-bounded d w state [] l = refl
ends-bounded d w state (byte ∷ text) l =
    ap (λ s. ends d s (bounded text)) (next-bounded d w state byte l) ∙ ends-bounded d w (next d state byte) text (next-within d w state byte l)

pub language-bounded : (a b : Automaton) → IsWhole a → IsWhole b → SameOnTexts a b → SameLanguage a b
language-bounded a b v w same text =
    ap (λ s. (state_at a s).accepting) (sym (ends-bounded a v a.start text v.start)) ∙ same (bounded text) (bounded-text text) ∙ ap (λ s. (state_at b s).accepting) (ends-bounded b w b.start text w.start)

pub least-on-texts : (a b : Automaton) → IsWhole a → IsWhole b → SameOnTexts a b → IsLeast a → IsLeast b → a ≡ b
least-on-texts a b v w same l m = least-equal a b l m (language-bounded a b v w same)

module _ (d : Automaton) (l : IsLeast d) where
  w : IsWhole d
  w = l.numbered.whole

  after : (u : List ℕ) → ends d d.start u < length d.states
  after u = ends-within d w d.start u w.start

  -- texts that end in one state have one residual
  alike : (u v : List ℕ) → ends d d.start u ≡ ends d d.start v → SameAfter (accepts d) u v
  alike u v e = λ t h. ap (λ s. (state_at d s).accepting) (ends-append d d.start u t ∙ ap (λ s. ends d s t) e ∙ sym (ends-append d d.start v t))

  -- and texts of one residual end in one state
  apart : (u v : List ℕ) → SameAfter (accepts d) u v → ends d d.start u ≡ ends d d.start v
  apart u v same =
      l.least (ends d d.start u) (ends d d.start v) (after u) (after v)
      (λ text.
      ap (λ s. (state_at d s).accepting) (sym (ends-bounded d w (ends d d.start u) text (after u)) ∙ sym (ends-append d d.start u (bounded text)))
      ∙ same (bounded text) (bounded-text text)
      ∙ ap (λ s. (state_at d s).accepting) (ends-append d d.start v (bounded text) ∙ ends-bounded d w (ends d d.start v) text (after v)))

  pub residual-ends : (u v : List ℕ) → IsText u → IsText v → (ends d d.start u ≡ ends d d.start v) ↔ SameAfter (accepts d) u v
  residual-ends u v h k = (alike u v, apart u v)

  -- a text of bytes that ends in the state
  text_to : (state : ℕ) → (state < length d.states) ⊎ (length d.states ≤ state) → List ℕ
  text_to state (inl lt) = bounded (l.numbered.reachable state lt).0
  text_to state (inr ge) = []

  text_to-text : (state : ℕ) (c : (state < length d.states) ⊎ (length d.states ≤ state)) → IsText (text_to state c)
  unfolding text_to
  text_to-text state (inl lt) = bounded-text (l.numbered.reachable state lt).0
  text_to-text state (inr ge) = text-none

  text_to-ends : (state : ℕ) (c : (state < length d.states) ⊎ (length d.states ≤ state)) → state < length d.states → ends d d.start (text_to state c) ≡ state
  unfolding text_to
  text_to-ends state (inl lt) h = ends-bounded d w d.start (l.numbered.reachable state lt).0 w.start ∙ (l.numbered.reachable state lt).1
  text_to-ends state (inr ge) h = absurd (omega (arith, ge, h))

  text_at : ℕ → List ℕ
  text_at state = text_to state (cases_lt state (length d.states))

  text_at-ends : (state : ℕ) → state < length d.states → ends d d.start (text_at state) ≡ state
  unfolding text_at
  text_at-ends state h = text_to-ends state (cases_lt state (length d.states)) h

  text_at-text : (state : ℕ) → IsText (text_at state)
  unfolding text_at
  text_at-text state = text_to-text state (cases_lt state (length d.states))

  pub residuals-exact : Exactly (SameAfter (accepts d)) (length d.states) IsText
  residuals-exact = record {
    at_least = record {
      member = text_at;
      of_kind = λ i h. text_at-text i;
      different = λ i j lt h same. (let e : i ≡ j = sym (text_at-ends i (omega (arith, lt, h))) ∙ apart (text_at i) (text_at j) same ∙ text_at-ends j h in absurd (omega (arith, e, lt)));
    };
    at_most = record {
      member = text_at;
      number = λ u h. ends d d.start u;
      below = λ u h. after u;
      same = λ u h. alike (text_at (ends d d.start u)) u (text_at-ends (ends d d.start u) (after u));
    };
  }
