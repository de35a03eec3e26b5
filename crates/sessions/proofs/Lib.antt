pub mod Imports
pub mod Hiring
pub mod Receipting
pub mod Finishing
