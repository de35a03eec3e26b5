pub mod Worlds
pub mod Reopening
pub mod Fresh
pub mod Sets
