pub mod HashesChanged
pub mod HashesEdited
pub mod HashesListed
pub mod SetLimits
pub mod SetChanges
pub mod SetMoves
