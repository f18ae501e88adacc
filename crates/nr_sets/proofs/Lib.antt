mod Seen
mod Bare
mod Few
mod Large
mod Chosen
pub mod Common
mod Joined
pub mod Gathered
