pub mod Sides
pub mod Served
pub mod Requests
pub mod Plans
pub mod Steps
pub mod Devices
pub mod Rested
pub mod SideOf
