pub mod Backlogs
pub mod Lent
pub mod Members
pub mod Ready
pub mod Replicas
