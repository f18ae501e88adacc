pub mod Kept
pub mod State
pub mod Told
pub mod Led
pub mod Stands
pub mod Moves
pub mod Placing
