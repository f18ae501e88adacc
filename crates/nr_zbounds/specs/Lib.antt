pub mod Marks
pub mod Ranges
pub mod Seen
