pub mod Solo
pub mod SoloRuns
pub mod Rows
pub mod Steps
