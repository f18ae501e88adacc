pub mod Lists
pub mod Scores
pub mod Trees
