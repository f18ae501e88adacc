pub mod Removed
pub mod Pairs
pub mod Options
pub mod Expired
