pub mod Queue
pub mod Seats
