pub mod Members
pub mod Ends
pub mod Joints
pub mod Groups
