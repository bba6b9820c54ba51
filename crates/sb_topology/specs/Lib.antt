pub mod Names
pub mod Places
pub mod Tests
pub mod Lines
pub mod Bundles
pub mod Held
