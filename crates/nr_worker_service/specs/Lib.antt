pub mod Serving
pub mod Told
pub mod Led
pub mod Works
