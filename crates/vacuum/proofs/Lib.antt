pub mod Imports
pub mod Lasting
pub mod Vacuuming
pub mod Holding
pub mod Causes
pub mod Removing
pub mod Counting
pub mod Reading
