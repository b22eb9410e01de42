pub mod TakenMore
pub mod Replays
pub mod Reviewed
pub mod DueAnswers
pub mod LaterEnd
pub mod WholeText
