pub mod Holdings
pub mod Standings
pub mod Indices
