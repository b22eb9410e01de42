pub mod AnswersReading
pub mod Keys
pub mod TextParts
