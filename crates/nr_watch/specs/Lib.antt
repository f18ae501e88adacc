pub mod Kept
pub mod Watching
