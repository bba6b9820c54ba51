pub mod Matched
pub mod Plain
pub mod Examples
