-- Lemmas on functions of signs.
use Rattle.std.proofs.Common.{◌≡◌, ℕ, ◌<◌, ◌≤◌, Bool, true, false, nat_eq, if◌then◌else◌, refl, sym, ap, ◌∙◌, eq-eqb, arith}
use Rattle.std.proofs.lemmas.Bool.{ne_eqb}
use Rattle.decision_graph.specs.Signs.{Signs, Function, Same, DependsFrom}
use Rattle.decision_graph.specs.Nodes.{chosen}

pub Same-refl : (f : Function) → Same f f
Same-refl f = record { at = λ s. refl }

pub Same-sym : {f g : Function} → Same f g → Same g f
Same-sym h = record { at = λ s. sym (h.at s) }

pub Same-trans : {f g k : Function} → Same f g → Same g k → Same f k
Same-trans h i = record { at = λ s. h.at s ∙ i.at s }

-- the signs, with one sign put at a variable
abbrev pub put : Signs → ℕ → Bool → Signs
put s v sign variable = if nat_eq variable v then sign else s variable

pub put-same : (s : Signs) (v : ℕ) (sign : Bool) → put s v sign v ≡ sign
put-same s v sign = ap (λ c. if c then sign else s v) (eq-eqb v v refl)

pub put-other : (s : Signs) (v : ℕ) (sign : Bool) (w : ℕ) → (w ≡ v → ⊥) → put s v sign w ≡ s w
put-other s v sign w h = ap (λ c. if c then sign else s w) (ne_eqb w v h)

-- a function that looks at no variable up to one has the same value once a sign is put there
pub put-DependsFrom : {f : Function} (s : Signs) (v first : ℕ) (sign : Bool) → v < first → DependsFrom first f → f (put s v sign) ≡ f s
put-DependsFrom s v first sign lt d = d.at (put s v sign) s (λ w le. put-other s v sign w (λ e. absurd (omega arith)))

pub DependsFrom-weaker : {f : Function} (first lower : ℕ) → lower ≤ first → DependsFrom first f → DependsFrom lower f
DependsFrom-weaker first lower le d = record { at = λ s t agree. d.at s t (λ w h. agree w (omega arith)) }

pub DependsFrom-Same : {f g : Function} (first : ℕ) → Same f g → DependsFrom first f → DependsFrom first g
DependsFrom-Same first same d = record { at = λ s t agree. sym (same.at s) ∙ d.at s t agree ∙ same.at t }

-- a choice whose parts do not look at the variable has its first part once the sign true is put there
pub hi_of_chosen : {f hi : Function} (lo : Function) (v first : ℕ) → v < first → DependsFrom first hi → Same f (chosen v hi lo) → (s : Signs) → hi s ≡ f (put s v true)
hi_of_chosen {f} {hi} lo v first lt d same s =
    let p : Signs = put s v true in
    sym (put-DependsFrom s v first true lt d) ∙ sym (ap (λ c. if c then hi p else lo p) (put-same s v true)) ∙ sym (same.at p)

pub lo_of_chosen : {f lo : Function} (hi : Function) (v first : ℕ) → v < first → DependsFrom first lo → Same f (chosen v hi lo) → (s : Signs) → lo s ≡ f (put s v false)
lo_of_chosen {f} {lo} hi v first lt d same s =
    let p : Signs = put s v false in
    sym (put-DependsFrom s v first false lt d) ∙ sym (ap (λ c. if c then hi p else lo p) (put-same s v false)) ∙ sym (same.at p)

-- a choice looks at no variable below its own
pub DependsFrom-chosen : {hi lo : Function} (v : ℕ) → DependsFrom v hi → DependsFrom v lo → DependsFrom v (chosen v hi lo)
DependsFrom-chosen {hi} {lo} v h l = record { at = λ s t agree. λ j. if (agree v (omega arith)) j then (h.at s t agree) j else (l.at s t agree) j }
