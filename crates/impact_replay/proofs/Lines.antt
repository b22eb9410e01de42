-- A log of which some lines were replayed, and those that are left.
use Rattle.std.proofs.Common.{⊎_elim, ◌≡◌, ℕ, ◌+◌, ◌<◌, ◌≤◌, List, [], ◌∷◌, ◌++◌, length, Result, Ok, Err, Option, None, Some, refl, sym, ap, subst, ◌∙◌, arith, length-append, append-nil, append_assoc}
use Rattle.std.specs.Borrow.{Bor}
use Rattle.std.specs.Option.{option_to_list}
use Rattle.impact_replay.specs.Comparison.{AreRevisions, HasCounted, IsCompared, IsDecision, IsLineReplayed}
use Rattle.impact_replay.specs.LogReading.{LineFault, LoggedRequest, numbered, requests_from}
use Rattle.impact_replay.specs.Lines.{lines_left}
use Rattle.impact_replay.specs.Replayed.{IsImpact, IsReplayed}
use Rattle.impact_replay.specs.declared.impact.Change.{Change}
use Rattle.impact_replay.specs.declared.impact.Impact.{Impact}
use Rattle.impact_replay.specs.declared.revisions.Revisions.{Revisions}
use Rattle.impact_replay.proofs.Cut.{cut_length}
use Rattle.impact_replay.proofs.Impacts.{AreUpTo, at_line, more_impact, no_impact, same_impact, up_to_later, up_to_more}
use Rattle.request_parts.specs.RequestReading.{request_reading}
use Rattle.waf_model.specs.Gives.{◌>>=◌}
use Rattle.waf_model.specs.Pieces.{cut}
use Rattle.waf_model.specs.declared.bundle.Bundle.{Bundle}
use Rattle.waf_model.specs.declared.request.Request.{Request}

-- the requests that were read, in front of what is read of the lines that are left
abbrev pub in_front : List LoggedRequest → Result (List LoggedRequest) LineFault → Result (List LoggedRequest) LineFault
in_front found more = more >>= λ rest. Ok (found ++ rest)

nothing_in_front : (more : Result (List LoggedRequest) LineFault) → more ≡ in_front [] more
nothing_in_front (Ok rest) = refl
nothing_in_front (Err fault) = refl

one_in_front : (found : List LoggedRequest) (one : LoggedRequest) (more : Result (List LoggedRequest) LineFault)
    → in_front found (more >>= λ rest. Ok (one ∷ rest)) ≡ in_front (found ++ one ∷ []) more
one_in_front found one (Ok rest) = ap Ok (sym (append_assoc found (one ∷ []) rest))
one_in_front found one (Err fault) = refl

-- ---- one line

is_read : (number : ℕ) (line : List ℕ) (lines : List (List ℕ)) (request : Request) → 0 < length line → request_reading line ≡ Ok request
    → requests_from number (line ∷ lines) ≡ (requests_from (number + 1) lines >>= λ rest. Ok (at_line number request ∷ rest))
is_read number [] lines request filled read = absurd (omega arith)
is_read number (b ∷ line) lines request filled read =
    ap (λ r. numbered number r >>= λ first. requests_from (number + 1) lines >>= λ rest. Ok (first ∷ rest)) read

-- ---- the lines so far

-- the lines up to that number were replayed, and these are left
pub record HasReplayed (revisions : Revisions) (lines : List (List ℕ)) (number : ℕ) (left : List (List ℕ)) (impact : Impact) : Type 0 where
  pub found : List LoggedRequest
  pub behind : requests_from 1 lines ≡ in_front found (requests_from (number + 1) left)
  pub counted : impact.lines ≡ length found
  pub within : length found ≤ number
  pub room : number + length left ≡ length lines
  pub up_to : AreUpTo number found
  pub is_impact : (old new : Bundle) → AreRevisions old new revisions → IsImpact old new revisions.answers.now found impact

pub replayed_none : (revisions : Revisions) (lines : List (List ℕ)) (impact : Impact) → impact.lines ≡ 0 → impact.changed ≡ [] → HasReplayed revisions lines 0 lines impact
replayed_none revisions lines impact counted changed = record {
  found = [];
  behind = nothing_in_front (requests_from 1 lines);
  counted = counted;
  within = omega arith;
  room = omega arith;
  up_to = λ logged among. absurd (omega arith);
  is_impact = λ old new are. no_impact old new revisions.answers.now impact counted changed;
}

-- what one more request, and the change that it shows, make of the impact
grown : (old new : Bundle) (revisions : Revisions) (found : List LoggedRequest) (number : ℕ) (request : Request) (change : Option Change) (before after : Impact)
    → IsImpact old new revisions.answers.now found before → AreUpTo number found → IsCompared old new revisions.answers.now (number + 1) request change
    → after.lines ≡ before.lines + 1 → after.changed ≡ before.changed ++ option_to_list change
    → IsImpact old new revisions.answers.now (found ++ at_line (number + 1) request ∷ []) after
grown old new revisions found number request None before after impact up_to compared lines changed =
    same_impact old new revisions.answers.now found (number + 1) request compared.old_decision before after impact compared.by_old
    (subst (IsDecision new request revisions.answers.now) (sym compared.change_of) compared.by_new) lines changed
grown old new revisions found number request (Some change) before after impact up_to compared lines changed =
    let is = compared.change_of in
    more_impact old new revisions.answers.now found number request change before after impact up_to is.0
    (subst (IsDecision old request revisions.answers.now) (sym is.1) compared.by_old) (subst (IsDecision new request revisions.answers.now) (sym is.2) compared.by_new)
    (λ same. is.3 (sym is.1 ∙ same ∙ is.2)) lines changed

replayed_empty : (revisions : Revisions) (lines : List (List ℕ)) (number : ℕ) (left : List (List ℕ)) (impact : Impact)
    → HasReplayed revisions lines number ([] ∷ left) impact → HasReplayed revisions lines (number + 1) left impact
replayed_empty revisions lines number left impact so_far = record {
  found = so_far.found;
  behind = so_far.behind;
  counted = so_far.counted;
  within = omega (arith, so_far.within);
  room = omega (arith, so_far.room);
  up_to = up_to_later number so_far.found so_far.up_to;
  is_impact = so_far.is_impact;
}

replayed_filled : (revisions : Revisions) (lines : List (List ℕ)) (number : ℕ) (line : List ℕ) (left : List (List ℕ)) (before after : Impact)
    → HasReplayed revisions lines number (line ∷ left) before → HasCounted revisions (number + 1) line before after → HasReplayed revisions lines (number + 1) left after
replayed_filled revisions lines number line left before after so_far counted =
    let compared = counted.compared in
    let one = at_line (number + 1) compared.request in
    record {
      found = so_far.found ++ one ∷ [];
      behind = so_far.behind ∙ ap (in_front so_far.found) (is_read (number + 1) line left compared.request compared.filled compared.read) ∙ one_in_front so_far.found one (requests_from (number + 1 + 1) left);
      counted = counted.lines ∙ ap (λ n. n + 1) so_far.counted ∙ sym (length-append so_far.found (one ∷ []));
      within = omega (arith, so_far.within, length-append so_far.found (one ∷ []));
      room = omega (arith, so_far.room);
      up_to = up_to_more number so_far.found compared.request so_far.up_to;
      is_impact = λ old new are. grown old new revisions so_far.found number compared.request counted.change before after (so_far.is_impact old new are) so_far.up_to (compared.compared old new are) counted.lines counted.changed;
    }

-- the text that is left was cut, and its first line was replayed
pub replayed_more : (revisions : Revisions) (lines : List (List ℕ)) (number : ℕ) (rest : Option (Bor (List ℕ))) (text : Bor (List ℕ)) (line : List ℕ) (left : List (List ℕ)) (before after : Impact)
    → HasReplayed revisions lines number (lines_left rest) before → rest ≡ Some text → cut 10 text.now ≡ line ∷ left → IsLineReplayed revisions (number + 1) line before after
    → HasReplayed revisions lines (number + 1) left after
replayed_more revisions lines number rest text line left before after so_far is first replayed =
    let here : HasReplayed revisions lines number (line ∷ left) before = subst (λ pieces. HasReplayed revisions lines number pieces before) (ap lines_left is ∙ first) so_far in
    ⊎_elim
    (λ empty. subst (HasReplayed revisions lines (number + 1) left) (sym empty.1)
    (replayed_empty revisions lines number left before (subst (λ piece. HasReplayed revisions lines number (piece ∷ left) before) empty.0 here)))
    (λ counted. replayed_filled revisions lines number line left before after here counted)
    replayed

-- there are no more lines than bytes and one
pub replayed_few : (revisions : Revisions) (log : List ℕ) (number : ℕ) (rest : Option (Bor (List ℕ))) (text : Bor (List ℕ)) (line : List ℕ) (left : List (List ℕ)) (impact : Impact)
    → HasReplayed revisions (cut 10 log) number (lines_left rest) impact → rest ≡ Some text → cut 10 text.now ≡ line ∷ left → number ≤ length log
replayed_few revisions log number rest text line left impact so_far is first =
    let room : number + length (lines_left rest) ≡ length (cut 10 log) = so_far.room in
    let some : length (lines_left rest) ≡ length (line ∷ left) = ap length (ap lines_left is ∙ first) in
    let most = cut_length log in
    omega arith

-- there are no more requests than lines
pub counted_few : (revisions : Revisions) (lines : List (List ℕ)) (number : ℕ) (left : List (List ℕ)) (impact : Impact) → HasReplayed revisions lines number left impact → impact.lines < number + 1
counted_few revisions lines number left impact so_far =
    let counted : impact.lines ≡ length so_far.found = so_far.counted in
    let within : length so_far.found ≤ number = so_far.within in
    omega arith

-- no line is left
pub replayed_all : (revisions : Revisions) (log : List ℕ) (number : ℕ) (rest : Option (Bor (List ℕ))) (impact : Impact)
    → HasReplayed revisions (cut 10 log) number (lines_left rest) impact → rest ≡ None → (old new : Bundle) → AreRevisions old new revisions → IsReplayed old new log revisions.answers.now impact
replayed_all revisions log number rest impact so_far none old new are =
    let left : requests_from (number + 1) (lines_left rest) ≡ Ok [] = ap (λ r. requests_from (number + 1) (lines_left r)) none in
    record {
      requests = so_far.found;
      read = so_far.behind ∙ ap (in_front so_far.found) left ∙ ap Ok (append-nil so_far.found);
      is_impact = so_far.is_impact old new are;
    }
