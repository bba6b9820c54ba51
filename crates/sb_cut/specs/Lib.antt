pub mod Widths
pub mod Merges
pub mod Folds
pub mod Works
