pub mod Plain
pub mod Named
