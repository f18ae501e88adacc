pub mod Marks
pub mod Taking
pub mod Crossing
pub mod Changes
pub mod Fronts
pub mod Choosing
pub mod Lending
pub mod FirstNumber
