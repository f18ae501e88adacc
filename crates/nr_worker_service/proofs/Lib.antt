pub mod Lists
mod Telling
mod Working
mod Leading
mod Calls
