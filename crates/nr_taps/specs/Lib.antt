pub mod Sequence
pub mod Taps
pub mod Marks
