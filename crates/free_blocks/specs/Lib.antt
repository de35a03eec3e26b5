pub mod Numbers
pub mod Tree
