pub mod Asked
pub mod ForwardedPieces
pub mod Meeting
pub mod Ready
pub mod Sets
pub mod Standing
pub mod Tree
