pub mod FirstInFile
pub mod PathMatch
pub mod PathOnly
pub mod PathSteps
pub mod PlainForm
pub mod Unnamed
