pub mod OneCommand
pub mod WordLaws
