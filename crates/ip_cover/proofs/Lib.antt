pub mod Covering
pub mod MergedSpans
pub mod MoreSpans
pub mod Searching
pub mod Sizes
