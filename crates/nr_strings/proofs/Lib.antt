mod Written
mod Counted
mod InPlace
mod Joined
