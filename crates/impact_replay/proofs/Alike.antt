-- Revisions that decide alike.
use Rattle.std.proofs.Common.{◌≡◌, ℕ, List, [], ◌∷◌, refl}
use Rattle.std.proofs.lemmas.List.Elements.{All-contains}
use Rattle.std.specs.List.{All, Contains}
use Rattle.impact_replay.proofs.Elements.{first_contained}
use Rattle.impact_replay.specs.LogReading.{LoggedRequest}
use Rattle.impact_replay.specs.Replayed.{IsChange, IsLogWithin, IsReplayed}
use Rattle.impact_replay.specs.declared.impact.Change.{Change}
use Rattle.impact_replay.specs.declared.impact.Impact.{Impact}
use Rattle.waf_model.specs.Alike.{Alike, IsLawful, pair_limit}
use Rattle.waf_model.specs.Within.{Within}
use Rattle.waf_model.specs.declared.answers.Answers.{Answers}
use Rattle.waf_model.specs.declared.bundle.Bundle.{Bundle}

-- none of the requests is decided otherwise
no_change : (old new : Bundle) (answers : Answers) (requests : List LoggedRequest) (change : Change) → Alike old new → IsLawful answers
    → All (λ logged. Within logged.request (pair_limit old new)) requests → IsChange old new answers requests change → ⊥
no_change old new answers requests change alike lawful within is =
    is.differ (alike is.request answers change.old change.new (All-contains (λ logged. Within logged.request (pair_limit old new)) requests _ within is.logged) lawful is.old_decides is.new_decides)

none_changed : (old new : Bundle) (answers : Answers) (requests : List LoggedRequest) (changes : List Change)
    → ((change : Change) → Contains changes change → IsChange old new answers requests change) → ((change : Change) → IsChange old new answers requests change → ⊥) → changes ≡ []
none_changed old new answers requests [] are none = refl
none_changed old new answers requests (change ∷ changes) are none = absurd (none change (are change (first_contained change changes)))

pub nothing_changed : (old new : Bundle) (log : List ℕ) (answers : Answers) (impact : Impact) → Alike old new → IsLogWithin log (pair_limit old new)
    → IsLawful answers → IsReplayed old new log answers impact → impact.changed ≡ []
nothing_changed old new log answers impact alike within lawful replayed =
    none_changed old new answers replayed.requests impact.changed
    (λ change among. (replayed.is_impact.exactly change).0 among)
    (λ change is. no_change old new answers replayed.requests change alike lawful (within replayed.requests replayed.read) is)
