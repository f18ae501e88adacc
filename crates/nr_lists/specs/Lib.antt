pub mod Matches
pub mod Packed
pub mod Blocks
pub mod Small
pub mod Forms
pub mod Walks
