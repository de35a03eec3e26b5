pub mod Imports
mod Appending
pub mod BlockLists
mod Forcing
pub mod ImageLists
pub mod Keeping
mod Laying
pub mod Leaving
mod Noting
mod Parsing
mod Replaying
mod Resetting
pub mod Standing
