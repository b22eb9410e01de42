-- A log has at most one impact.
use Rattle.std.proofs.Common.{◌≡◌, ⊎_elim, ℕ, ◌<◌, List, [], ◌∷◌, refl, sym, ap, subst, ◌∙◌, arith}
use Rattle.std.specs.List.{AllPairs, Contains}
use Rattle.impact_replay.proofs.Elements.{first_contained, first_or_later, first_pairs, later_contained, later_pairs, none_contained}
use Rattle.impact_replay.specs.LogReading.{LoggedRequest}
use Rattle.impact_replay.specs.Replayed.{IsImpact, IsReplayed}
use Rattle.impact_replay.specs.declared.impact.Change.{Change}
use Rattle.impact_replay.specs.declared.impact.Impact.{Impact}
use Rattle.waf_model.specs.declared.answers.Answers.{Answers}
use Rattle.waf_model.specs.declared.bundle.Bundle.{Bundle}

-- by ascending line, each once
abbrev pub DoAscend : List Change → Type 0
DoAscend changes = AllPairs (λ a b. a.line < b.line) changes

-- all of the one are of the other
abbrev pub AreAmong : List Change → List Change → Type 0
AreAmong one other = (change : Change) → Contains one change → Contains other change

same_first : (a b : Change) (one other : List Change) → DoAscend (a ∷ one) → DoAscend (b ∷ other) → AreAmong (a ∷ one) (b ∷ other) → AreAmong (b ∷ other) (a ∷ one) → a ≡ b
same_first a b one other up_one up_other forth back =
    ⊎_elim (λ is. sym is)
    (λ later. ⊎_elim (λ is. is)
    (λ earlier.
    let low : a.line < b.line = first_pairs (λ a b. a.line < b.line) a one b up_one earlier in
    let high : b.line < a.line = first_pairs (λ a b. a.line < b.line) b other a up_other later in
    absurd (omega arith))
    (first_or_later a one b (back b (first_contained b other))))
    (first_or_later b other a (forth a (first_contained a one)))

later_among : (a b : Change) (one other : List Change) → a ≡ b → DoAscend (a ∷ one) → AreAmong (a ∷ one) (b ∷ other) → AreAmong one other
later_among a b one other same up forth = λ change among.
    ⊎_elim
    (λ is.
    let low : a.line < change.line = first_pairs (λ a b. a.line < b.line) a one change up among in
    let equal : a.line ≡ change.line = ap (λ (c : Change). c.line) (same ∙ is) in
    absurd (omega arith))
    (λ later. later)
    (first_or_later b other change (forth change (later_contained a one change among)))

same_changes : (one other : List Change) → DoAscend one → DoAscend other → AreAmong one other → AreAmong other one → one ≡ other
same_changes [] [] up_one up_other forth back = refl
same_changes [] (b ∷ other) up_one up_other forth back = absurd (none_contained b (back b (first_contained b other)))
same_changes (a ∷ one) [] up_one up_other forth back = absurd (none_contained a (forth a (first_contained a one)))
same_changes (a ∷ one) (b ∷ other) up_one up_other forth back =
    let same : a ≡ b = same_first a b one other up_one up_other forth back in
    let rest : one ≡ other =
    same_changes one other (later_pairs (λ a b. a.line < b.line) a one up_one) (later_pairs (λ a b. a.line < b.line) b other up_other)
    (later_among a b one other same up_one forth) (later_among b a other one (sym same) up_other back) in
    λ i. same i ∷ rest i

one_of_requests : (old new : Bundle) (answers : Answers) (requests : List LoggedRequest) (one other : Impact) → IsImpact old new answers requests one → IsImpact old new answers requests other → one ≡ other
one_of_requests old new answers requests one other is_one is_other =
    let lines : one.lines ≡ other.lines = is_one.lines ∙ sym is_other.lines in
    let changed : one.changed ≡ other.changed =
    same_changes one.changed other.changed is_one.ascend is_other.ascend
    (λ change among. (is_other.exactly change).1 ((is_one.exactly change).0 among))
    (λ change among. (is_one.exactly change).1 ((is_other.exactly change).0 among)) in
    λ i. record { lines = lines i; changed = changed i }

pub one_impact_is : (old new : Bundle) (log : List ℕ) (answers : Answers) (one other : Impact)
    → IsReplayed old new log answers one → IsReplayed old new log answers other → one ≡ other
one_impact_is old new log answers one other is_one is_other =
    let read : is_one.requests ≡ is_other.requests = cc (is_one.read, is_other.read) in
    one_of_requests old new answers is_other.requests one other (subst (λ requests. IsImpact old new answers requests one) read is_one.is_impact) is_other.is_impact
