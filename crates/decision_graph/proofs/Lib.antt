pub mod CanonicalLemmas
pub mod GrowLemmas
pub mod JoinedLemmas
pub mod NodeLemmas
pub mod PartLemmas
pub mod SignLemmas
pub mod StepLemmas
pub mod StoredLemmas
