pub mod Integers
mod Compared
