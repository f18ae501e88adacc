pub mod Integers
pub mod Compared
pub mod Stored
pub mod Refusals
