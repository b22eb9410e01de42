-- Where the sink's count didn't rise, the text was written whole.
use Rattle.std.proofs.Common.{ℕ, inl, inr, List, Option, arith}
use Rattle.waf_base.specs.Counts.{Rose, Stayed}
use Rattle.wafreview_run.specs.Answered.{IsWritten, Written}

-- no count both rose and stayed
pub rose_or_stayed : (before after : ℕ) → Rose before after → Stayed before after → ⊥
rose_or_stayed before after (inl rose) stayed = omega (arith, rose, stayed.0)
rose_or_stayed before after (inr greatest) stayed = omega (arith, greatest, stayed.1)

-- the sink didn't fail
pub written_whole : (before after : Option (List ℕ)) (faults_before faults_after code : ℕ) (text : List ℕ) (status : ℕ)
    → Written before after faults_before faults_after code text status → Stayed faults_before faults_after → IsWritten before after faults_before faults_after code text status
written_whole before after f g code text status (inl written) stayed = written
written_whole before after f g code text status (inr broken) stayed = absurd (rose_or_stayed f g broken.counted stayed)
