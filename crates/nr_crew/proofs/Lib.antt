mod Dealt
mod InPlace
mod Remains
mod Together
pub mod Fresh
mod Crossing
pub mod Limits
