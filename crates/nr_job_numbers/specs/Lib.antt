pub mod Account
pub mod Stored
pub mod Book
