pub mod Asked
pub mod Fronts
pub mod Going
