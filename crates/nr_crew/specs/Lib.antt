pub mod Dealing
pub mod Left
pub mod Ended
pub mod Together
pub mod Nodes
pub mod Places
