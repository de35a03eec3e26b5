pub mod Parts
pub mod Numerals
pub mod Commas
pub mod RowText
pub mod Keys
pub mod Newlines
pub mod Printed
pub mod Read
