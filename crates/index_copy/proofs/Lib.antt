pub mod Entries
pub mod Going
pub mod Nexts
pub mod Seats
pub mod Copied
pub mod Whole
