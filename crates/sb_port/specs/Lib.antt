pub mod Waiting
pub mod Ports
pub mod Turns
