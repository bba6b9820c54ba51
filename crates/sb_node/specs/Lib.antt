pub mod Sides
pub mod Kept
pub mod Rested
pub mod Turns
pub mod Idle
pub mod Found
pub mod Steps
