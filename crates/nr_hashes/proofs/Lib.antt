mod Seen
mod Large
