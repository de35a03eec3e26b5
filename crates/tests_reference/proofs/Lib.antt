pub mod Imports
pub mod Moments
pub mod Candidates
pub mod Adds
pub mod Owners
