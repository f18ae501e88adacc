pub mod Acknowledged
pub mod Delivered
pub mod Held
pub mod Holding
pub mod Nodes
pub mod Sent
pub mod Written
