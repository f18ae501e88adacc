pub mod Deeds
pub mod Among
mod Grows
pub mod CombinerPasts
pub mod Lifted
pub mod Turns
pub mod Due
pub mod Rounds
pub mod Moves
mod Revived
mod Ends
pub mod Handed
mod Cut
pub mod Crossing
pub mod Seated
pub mod Rooms
mod Counted
mod Led
pub mod Alone
