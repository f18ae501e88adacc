pub mod Addresses
pub mod Refusing
pub mod Unheard
