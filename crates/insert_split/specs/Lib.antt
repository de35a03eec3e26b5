pub mod Straight
pub mod Inserts
pub mod Turns
pub mod Laws
