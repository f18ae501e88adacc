-- Worked rows: what the definitions give for bytes and sequences that were written down apart from them.
pub mod Integers
pub mod Requests
pub mod Replies
pub mod Patterns
pub mod Commands
pub mod Keys
pub mod Strings
pub mod Lists
pub mod Hashes
pub mod Sets
pub mod SortedSets
pub mod Modes
pub mod Sequential
pub mod Nodes
