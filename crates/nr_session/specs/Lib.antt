pub mod Coded
pub mod Lives
pub mod SessionState
