pub mod Lists
mod Queues
mod Levels
mod Orders
pub mod Served
pub mod Owed
mod Got
mod Closing
mod Advances
mod Fresh
mod Dropped
mod Filled
mod Taking
mod Caught
mod Revived
mod Loans
mod Due
pub mod Ready
mod Collected
mod Shares
mod Unended
pub mod Crossing
