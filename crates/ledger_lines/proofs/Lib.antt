pub mod Imports
pub mod Putting
pub mod Refusing
pub mod Given
pub mod Answered
pub mod Ending
pub mod Refused
