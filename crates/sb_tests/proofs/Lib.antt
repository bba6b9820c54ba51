pub mod NewRings
pub mod NewLine
pub mod SampleRings
