-- The impact on some requests, and on these with one request more.
use Rattle.std.proofs.Common.{◌≡◌, ◌≢◌, ◌⊎◌, inl, inr, ℕ, ◌+◌, ◌<◌, ◌≤◌, List, [], ◌∷◌, ◌++◌, length, get_or, sym, ap, subst, ◌∙◌, arith, length-append, append-nil, ⊎_elim}
use Rattle.std.proofs.lemmas.List.Elements.{Contains-append_left, Contains-get_or, Contains-push, Contains-push_cases}
use Rattle.std.proofs.lemmas.List.Quantifiers.{all_pairs_push}
use Rattle.std.specs.List.{AllPairs, Contains}
use Rattle.impact_replay.proofs.Elements.{none_contained}
use Rattle.impact_replay.specs.Comparison.{IsDecision}
use Rattle.impact_replay.specs.LogReading.{LoggedRequest}
use Rattle.impact_replay.specs.Replayed.{IsChange, IsImpact}
use Rattle.impact_replay.specs.declared.impact.Change.{Change}
use Rattle.impact_replay.specs.declared.impact.Impact.{Impact}
use Rattle.waf_model.specs.Alike.{Decides}
use Rattle.waf_model.specs.declared.action.Decision.{Decision}
use Rattle.waf_model.specs.declared.answers.Answers.{Answers}
use Rattle.waf_model.specs.declared.bundle.Bundle.{Bundle}
use Rattle.waf_model.specs.declared.request.Request.{Request}

-- each request stands at a line up to that one
abbrev pub AreUpTo : ℕ → List LoggedRequest → Type 0
AreUpTo number found = (logged : LoggedRequest) → Contains found logged → logged.line ≤ number

-- the request of a line more
abbrev pub at_line : ℕ → Request → LoggedRequest
at_line number request = record { line = number; request = request }

pub up_to_more : (number : ℕ) (found : List LoggedRequest) (request : Request) → AreUpTo number found → AreUpTo (number + 1) (found ++ at_line (number + 1) request ∷ [])
up_to_more number found request up_to = λ logged among.
    ⊎_elim (λ before. let low = up_to logged before in omega arith)
    (λ is. let same = ap (λ (l : LoggedRequest). l.line) is in omega arith)
    (Contains-push_cases found (at_line (number + 1) request) logged among)

pub up_to_later : (number : ℕ) (found : List LoggedRequest) → AreUpTo number found → AreUpTo (number + 1) found
up_to_later number found up_to = λ logged among. let low = up_to logged among in omega arith

pub no_impact : (old new : Bundle) (answers : Answers) (impact : Impact) → impact.lines ≡ 0 → impact.changed ≡ [] → IsImpact old new answers [] impact
no_impact old new answers impact lines changed = record {
  lines = lines;
  ascend = rw changed (λ i j d before within. absurd (omega arith));
  exactly = λ change. (
    λ among. absurd (none_contained change (subst (λ changes. Contains changes change) changed among)),
    λ is. absurd (none_contained _ is.logged),
  );
}

-- a change among some requests is one among more
stays_change : (old new : Bundle) (answers : Answers) (found more : List LoggedRequest) (change : Change) → IsChange old new answers found change → IsChange old new answers (found ++ more) change
stays_change old new answers found more change is = record {
  request = is.request;
  logged = Contains-append_left found more _ is.logged;
  old_decides = is.old_decides;
  new_decides = is.new_decides;
  differ = is.differ;
}

-- a change among the requests with one more is one of those before, or the request is the last
last_change : (old new : Bundle) (answers : Answers) (found : List LoggedRequest) (number : ℕ) (request : Request) (change : Change)
    → IsChange old new answers (found ++ at_line number request ∷ []) change
    → IsChange old new answers found change
    ⊎ ((change.line ≡ number) × Decides old request answers change.old × Decides new request answers change.new × (change.old ≢ change.new))
last_change old new answers found number request change is =
    ⊎_elim
    (λ before. inl (record { request = is.request; logged = before; old_decides = is.old_decides; new_decides = is.new_decides; differ = is.differ }))
    (λ same. inr (
      sym (ap (λ (l : LoggedRequest). l.line) same),
      subst (λ r. Decides old r answers change.old) (sym (ap (λ (l : LoggedRequest). l.request) same)) is.old_decides,
      subst (λ r. Decides new r answers change.new) (sym (ap (λ (l : LoggedRequest). l.request) same)) is.new_decides,
      is.differ,
    ))
    (Contains-push_cases found (at_line number request) (at_line change.line is.request) is.logged)

-- both decide the request more alike
pub same_impact : (old new : Bundle) (answers : Answers) (found : List LoggedRequest) (number : ℕ) (request : Request) (decision : Decision) (before after : Impact)
    → IsImpact old new answers found before → IsDecision old request answers decision → IsDecision new request answers decision
    → after.lines ≡ before.lines + 1 → after.changed ≡ before.changed ++ []
    → IsImpact old new answers (found ++ at_line number request ∷ []) after
same_impact old new answers found number request decision before after impact old_decision new_decision lines changed = record {
  lines = lines ∙ ap (λ n. n + 1) impact.lines ∙ sym (length-append found (at_line number request ∷ []));
  ascend = rw (changed, append-nil) impact.ascend;
  exactly = λ change. (
    λ among. stays_change old new answers found _ change ((impact.exactly change).0 (subst (λ changes. Contains changes change) (changed ∙ append-nil _) among)),
    λ is.
        ⊎_elim
        (λ earlier. subst (λ changes. Contains changes change) (sym (changed ∙ append-nil _)) ((impact.exactly change).1 earlier))
        (λ last. absurd (last.3 (old_decision.alone _ last.1 ∙ sym (new_decision.alone _ last.2))))
        (last_change old new answers found number request change is),
  );
}

-- they decide it differently, as the change says, which stands behind the others
pub more_impact : (old new : Bundle) (answers : Answers) (found : List LoggedRequest) (number : ℕ) (request : Request) (one : Change) (before after : Impact)
    → IsImpact old new answers found before → AreUpTo number found → one.line ≡ number + 1 → IsDecision old request answers one.old → IsDecision new request answers one.new → one.old ≢ one.new
    → after.lines ≡ before.lines + 1 → after.changed ≡ before.changed ++ one ∷ []
    → IsImpact old new answers (found ++ at_line (number + 1) request ∷ []) after
more_impact old new answers found number request one before after impact up_to line old_decision new_decision differ lines changed =
    let all = found ++ at_line (number + 1) request ∷ [] in
    let below : (k : ℕ) (d : Change) → k < length before.changed → (get_or before.changed k d).line < one.line =
    (λ k d within.
    let is = (impact.exactly (get_or before.changed k d)).0 (Contains-get_or before.changed k d within) in
    let low = up_to (at_line (get_or before.changed k d).line is.request) is.logged in
    omega (arith, line)) in
    let is_one : IsChange old new answers all one = record {
      request = request;
      logged = subst (λ n. Contains all (at_line n request)) (sym line) (Contains-push found (at_line (number + 1) request));
      old_decides = old_decision.decides;
      new_decides = new_decision.decides;
      differ = differ;
    } in
    record {
      lines = lines ∙ ap (λ n. n + 1) impact.lines ∙ sym (length-append found (at_line (number + 1) request ∷ []));
      ascend = subst (λ changes. AllPairs (λ a b. a.line < b.line) changes) (sym changed) (all_pairs_push (λ a b. a.line < b.line) before.changed one impact.ascend below);
      exactly = λ change. (
        λ among.
            ⊎_elim
            (λ earlier. stays_change old new answers found _ change ((impact.exactly change).0 earlier))
            (λ is. subst (IsChange old new answers all) is is_one)
            (Contains-push_cases before.changed one change (subst (λ changes. Contains changes change) changed among)),
        λ is.
            ⊎_elim
            (λ earlier. subst (λ changes. Contains changes change) (sym changed) (Contains-append_left before.changed (one ∷ []) change ((impact.exactly change).1 earlier)))
            (λ last.
            let same_line : one.line ≡ change.line = line ∙ sym last.0 in
            let same_old : one.old ≡ change.old = sym (old_decision.alone _ last.1) in
            let same_new : one.new ≡ change.new = sym (new_decision.alone _ last.2) in
            let same : one ≡ change = λ i. record { line = same_line i; old = same_old i; new = same_new i } in
            subst (λ changes. Contains changes change) (sym changed) (subst (Contains (before.changed ++ one ∷ [])) same (Contains-push before.changed one)))
            (last_change old new answers found (number + 1) request change is),
      );
    }
