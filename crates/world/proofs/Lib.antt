pub mod Opened
pub mod Leaving
pub mod Fresh
pub mod Ending
pub mod NoDeletes
