pub mod Calls
pub mod Superblock
pub mod Index
pub mod Fresh
pub mod Reading
pub mod Homing
pub mod Opening
pub mod Outside
