pub mod Batches
pub mod Closing
pub mod Holding
pub mod Learning
pub mod Putting
pub mod Rows
