mod Moved
mod NoItems
mod Options
mod Popped
mod Pushed
mod Relisted
