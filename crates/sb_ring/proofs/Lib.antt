pub mod Prefixes
pub mod Words
pub mod Seats
pub mod Moves
pub mod Zeros
pub mod Slots
pub mod Ends
