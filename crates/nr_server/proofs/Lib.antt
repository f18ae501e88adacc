pub mod Pasts
pub mod Going
pub mod Begun
pub mod Whole
pub mod Ended
pub mod Read
pub mod Both
mod Unheard
mod Finished
mod ByLane
