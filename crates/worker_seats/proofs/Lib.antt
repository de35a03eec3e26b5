pub mod Counting
pub mod Fitting
pub mod Queueing
pub mod Rows
