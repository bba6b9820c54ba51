pub mod Answering
pub mod Items
pub mod Serving
pub mod Subsequences
pub mod TurnExamples
pub mod Offered
