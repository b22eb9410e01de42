pub mod Alike
pub mod Cut
pub mod Elements
pub mod Impacts
pub mod Lines
pub mod OneImpact
