pub mod Relay
pub mod QueueMarks
