pub mod Targets
pub mod Turns
pub mod Finishes
pub mod Acting
pub mod Parting
