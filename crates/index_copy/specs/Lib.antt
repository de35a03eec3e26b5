pub mod Batches
pub mod Copying
pub mod Copies
pub mod Onto
pub mod InFile
