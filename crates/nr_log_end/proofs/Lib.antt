pub mod Rising
pub mod Numbered
