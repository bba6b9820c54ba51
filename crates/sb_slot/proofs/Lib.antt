pub mod SlotLemmas
pub mod ZeroBytes
pub mod SlotFields
pub mod SlotLaws
