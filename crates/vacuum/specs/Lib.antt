pub mod Ops
pub mod Vacuuming
pub mod Counts
pub mod Work
pub mod BulkDeletes
pub mod Turns
pub mod Laws
