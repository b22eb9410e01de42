-- A file was read, and reading ended at one behind it.
use Rattle.std.proofs.Common.{ℕ, ◌≡◌, ◌≤◌, ◌<◌, ◌⊎◌, inl, inr, List, [], ◌∷◌, subst, arith}
use Rattle.std.proofs.Math.Nat.{eq-or-lt_of_le}
use Rattle.waf_base.specs.Counts.{Rose, greatest_count}
use Rattle.waf_base.specs.Holding.{Holding, MayRead, MayBeTooLong}
use Rattle.wafreview_run.specs.Ended.{EndsAt}
use Rattle.wafreview_run.specs.Files.{FirstUnread}
use Rattle.wafreview_run.specs.declared.named_files.Ended.{Ended}
use Rattle.wafreview_run.specs.declared.named_files.Ended.TheVariants as ends
use Rattle.wafreview_run.specs.declared.role.Role.{Role}

-- a count that stood at its greatest value stood there before, or rose
pub rose_by : (before then after : ℕ) → then ≤ after → greatest_count ≤ then → (before ≡ then) ⊎ (before < then) → Rose before after
rose_by before then after second greatest (inl same) = inr (omega (arith, same, greatest))
rose_by before then after second greatest (inr rose) = inl (omega (arith, rose, second))

-- a count that rose later rose
pub rose_from : (before then after : ℕ) → before ≤ then → then ≤ after → Rose then after → Rose before after
rose_from before then after first second (inl rose) = inl (omega (arith, first, rose))
rose_from before then after first second (inr greatest) = rose_by before then after second greatest (eq-or-lt_of_le first)

-- what is told is the same, and a file that may be such a one then may be such a one before
pub moved : (one other : List ℕ → Holding) (then before : List ℕ → Type 0) (files : List (Role × List ℕ)) (role : Role) → ((n : List ℕ) → one n ≡ other n) → ((n : List ℕ) → then n → before n)
    → FirstUnread one then files role → FirstUnread other before files role
moved one other then before [] role told may none = absurd none
moved one other then before (file ∷ files) role told may (inl here) = inl (here.0, may file.1 here.1)
moved one other then before (file ∷ files) role told may (inr later) =
    inr (later.0, subst (λ (holding : Holding). MayRead holding later.0) (told file.1) later.1, moved one other then before files role told may later.2)

-- reading ended at a file behind this one, which was read
pub later : (one other : List ℕ → Holding) (sure then : List ℕ → Type 0) (faults faulted_to faults_end long long_to long_end : ℕ) (file : Role × List ℕ) (files : List (Role × List ℕ)) (bytes : List ℕ) (ended : Ended)
    → ((n : List ℕ) → other n ≡ one n) → ((n : List ℕ) → sure n → then n) → faults ≤ faulted_to → faulted_to ≤ faults_end → long ≤ long_to → long_to ≤ long_end
    → MayRead (one file.1) bytes → EndsAt other then (Rose faulted_to faults_end) (Rose long_to long_end) files ended → EndsAt one sure (Rose faults faults_end) (Rose long long_end) (file ∷ files) ended
later one other sure then f0 f1 f2 l0 l1 l2 file files bytes (ends.Unread role) told stays f01 f12 l01 l12 read end = (
  rose_from f0 f1 f2 f01 f12 end.0,
  inr (bytes, read, moved other one (λ n. then n → ⊥) (λ n. sure n → ⊥) files role told (λ n not is. not (stays n is)) end.1),
)
later one other sure then f0 f1 f2 l0 l1 l2 file files bytes (ends.TooLong role) told stays f01 f12 l01 l12 read end = (
  rose_from l0 l1 l2 l01 l12 end.0,
  inr (bytes, read, moved other one (λ n. MayBeTooLong (other n)) (λ n. MayBeTooLong (one n)) files role told (λ n long. subst MayBeTooLong (told n) long) end.1),
)
later one other sure then f0 f1 f2 l0 l1 l2 file files bytes ends.Memory told stays f01 f12 l01 l12 read end = tt
