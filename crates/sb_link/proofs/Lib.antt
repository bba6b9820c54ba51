pub mod InTurn
pub mod Truths
pub mod Ranges
pub mod MessageFlows
pub mod Pushes
pub mod Rows
pub mod PlanExamples
