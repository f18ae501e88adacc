pub mod Layout
pub mod Names
pub mod Rule
pub mod Plays
pub mod Seats
pub mod Steps
pub mod Codes
pub mod Law
