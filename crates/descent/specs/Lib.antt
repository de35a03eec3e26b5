pub mod Causes
pub mod NextPage
pub mod Splitting
