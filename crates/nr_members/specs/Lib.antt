pub mod HashesEdited
pub mod HashesSet
pub mod Changed
