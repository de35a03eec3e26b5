pub mod Damages
pub mod Levels
pub mod Laws
pub mod Lows
