pub mod Inputs
pub mod Refusals
pub mod Judgements
pub mod BundleRuns
pub mod Schedules
pub mod TopCall
