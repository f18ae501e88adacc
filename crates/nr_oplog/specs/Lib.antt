pub mod Layout
pub mod Rule
pub mod Plays
pub mod Names
pub mod Seats
pub mod Calls
pub mod Opening
pub mod Law
