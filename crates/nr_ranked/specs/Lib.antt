pub mod Adding
pub mod Changing
pub mod Edited
pub mod Options
pub mod Reading
pub mod Storing
pub mod Sums
