pub mod Forms
pub mod Listed
pub mod Lent
