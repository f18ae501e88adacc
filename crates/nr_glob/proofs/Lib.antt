pub mod Cuts
pub mod Marks
pub mod Reading
pub mod Rests
pub mod Steps
pub mod Walking
