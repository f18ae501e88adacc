mod Accepts
mod Longest
mod Weave
mod Parts
mod Rises
pub mod Explains
mod Tapped
pub mod Meetings
pub mod Marks
