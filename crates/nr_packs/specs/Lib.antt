pub mod Packed
pub mod Orders
pub mod Placed
pub mod Tables
pub mod Puts
pub mod Rows
