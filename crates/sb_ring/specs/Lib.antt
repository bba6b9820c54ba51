pub mod Layout
pub mod Rule
pub mod Plays
pub mod Sending
pub mod RingMarks
