pub mod Atomics
pub mod Requests
pub mod TwosComplement
pub mod WordBytes
pub mod FoundAnswers
