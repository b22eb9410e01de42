pub mod Bundles
pub mod Lists
pub mod Missing
pub mod Sets
pub mod Whole
