pub mod Found
pub mod Growing
pub mod Handing
pub mod Putting
mod Lists
mod Workers
mod Apart
mod Answered
mod Timed
mod Accounted
mod Batched
mod Portioned
mod Reordered
mod Beside
mod Nourished
mod Gathered
mod Awaited
mod Admitted
mod Departed
mod Altered
mod Returned
pub mod Rested
