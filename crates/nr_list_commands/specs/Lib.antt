pub mod Relisted
pub mod Options
pub mod Popped
