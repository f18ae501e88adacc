pub mod Behind
pub mod DatabasesKept
pub mod Entries
pub mod Transactions
pub mod Watched
pub mod Crossing
