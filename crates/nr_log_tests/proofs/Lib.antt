pub mod Filled
pub mod Popped
pub mod Rises
