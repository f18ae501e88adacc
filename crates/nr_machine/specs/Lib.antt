pub mod Codes
pub mod Machines
pub mod Placed
pub mod Stored
pub mod Steps
pub mod Ran
