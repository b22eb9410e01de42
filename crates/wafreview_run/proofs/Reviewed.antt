-- The answer of a review is what is due.
use Rattle.std.proofs.Common.{◌≡◌, ℕ, List, ◌⊎◌, inl, inr}
use Rattle.waf_model.specs.declared.bundle.Bundle.{Bundle}
use Rattle.parting_build.specs.Reviewed.{IsReview}
use Rattle.parting_build.specs.declared.verdict.Review.{Review}
use Rattle.parting_build.specs.declared.verdict.Review.TheVariants.{Equal, Different, Undecided}
use Rattle.request_parts.proofs.ReadBack.{reads_back}
use Rattle.wafreview_run.specs.Due.{IsEqual, IsDifferent}
use Rattle.wafreview_run.specs.ReviewText.{review_text, review_code}

pub reviewed_due : (old new : Bundle) (answer : Review) (code : ℕ) (text : List ℕ) → IsReview old new answer → code ≡ review_code answer → text ≡ review_text answer → IsEqual old new code text ⊎ IsDifferent old new code text
reviewed_due old new Equal code text is status printed = inl (record { alike = is; status = status; printed = printed })
reviewed_due old new (Different parting) code text is status printed = inr (record {
  before = parting.old;
  after = parting.new;
  request = parting.request;
  answers = parting.answers;
  parts = is.0;
  least = is.1;
  reads_back = reads_back parting.request _ is.0.within;
  status = status;
  printed = printed;
})
reviewed_due old new (Undecided made) code text is status printed = absurd is
