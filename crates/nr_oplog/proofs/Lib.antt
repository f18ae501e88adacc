pub mod Fronts
pub mod Places
pub mod Changes
mod Rises
pub mod Seats
pub mod Looks
pub mod Cells
pub mod Claims
pub mod Fills
pub mod Counts
pub mod Fetches
pub mod Passes
pub mod Calls
pub mod Comings
pub mod Adopted
pub mod Seating
pub mod Crossing
mod Reserved
