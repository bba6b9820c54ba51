pub mod Lines
pub mod Samples
