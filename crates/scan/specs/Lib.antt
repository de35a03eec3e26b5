pub mod Ready
pub mod Work
pub mod Straight
pub mod Scans
pub mod Laws
