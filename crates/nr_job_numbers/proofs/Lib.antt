pub mod Seen
pub mod After
pub mod Steps
pub mod Strangers
pub mod Counts
pub mod GoingBack
mod Ends
pub mod Batches
