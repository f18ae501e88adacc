pub mod Emitted
pub mod Staged
pub mod Messages
pub mod Parts
pub mod Subscribing
