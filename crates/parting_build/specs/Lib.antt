pub mod Candidate
pub mod FirstInFile
pub mod Named
pub mod Plain
pub mod Reviewed
pub mod WholePath
