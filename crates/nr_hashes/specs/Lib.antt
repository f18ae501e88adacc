pub mod Forms
pub mod Listed
