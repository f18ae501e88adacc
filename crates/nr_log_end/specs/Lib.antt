pub mod Numbers
pub mod Standings
pub mod Reserves
pub mod Tries
