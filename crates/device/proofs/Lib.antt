pub mod Going
pub mod Standing
mod Noting
pub mod Replaying
