pub mod Found
pub mod Standing
pub mod Seen
pub mod Touching
pub mod Marking
pub mod Putting
pub mod Copying
pub mod Named
