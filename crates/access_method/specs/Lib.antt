pub mod Rows
pub mod Tokens
pub mod Counted
pub mod Indexes
pub mod Refusals
pub mod Files
pub mod Scans
pub mod Parts
