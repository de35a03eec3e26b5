pub mod Frames
pub mod Orders
pub mod Pools
pub mod Choices
