pub mod Classes
pub mod Singles
pub mod Walks
