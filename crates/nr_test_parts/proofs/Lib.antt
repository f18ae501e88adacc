pub mod Crossing
mod Taken
mod Fresh
mod Gathered
