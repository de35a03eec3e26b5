pub mod Lines
pub mod Replies
pub mod Files
pub mod Calls
pub mod Breaking
pub mod Opening
pub mod Sessions
