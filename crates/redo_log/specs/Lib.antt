pub mod Images
pub mod Groups
pub mod Blocks
pub mod Kept
pub mod Reading
