pub mod Holdings
pub mod Holders
