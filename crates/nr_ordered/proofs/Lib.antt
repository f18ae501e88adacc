pub mod Heights
pub mod Places
pub mod Parts
pub mod Parted
mod Totals
mod Holding
mod Shapes
pub mod Crossing
