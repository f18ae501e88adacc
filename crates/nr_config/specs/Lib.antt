pub mod Keys
pub mod Places
pub mod Faults
pub mod Given
pub mod CommandLines
