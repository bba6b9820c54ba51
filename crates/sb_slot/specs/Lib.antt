pub mod Slots
pub mod SlotFaults
