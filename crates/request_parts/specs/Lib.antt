pub mod CookieTally
pub mod Fitting
pub mod JoinedHeaders
pub mod PieceViews
pub mod RequestReading
pub mod WrittenFronts
