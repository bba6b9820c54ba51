pub mod EndsChanged
pub mod RingsMet
pub mod RingsJoined
pub mod Turned
pub mod Dealt
pub mod DealtRings
pub mod Dealing
