pub mod Setups
pub mod Kinds
pub mod Jobs
pub mod Choice
pub mod Entry
pub mod Shares
pub mod Waiting
pub mod Runs
