pub mod Congruence
pub mod Drawn
pub mod Generated
pub mod Summary
