mod Sets
mod Connections
pub mod Seen
mod Indexed
mod Leaving
mod Copying
mod Held
mod Subscribers
mod Exact
mod Listed
