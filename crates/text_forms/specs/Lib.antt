pub mod Spelling
pub mod Left
pub mod Values
pub mod Printing
pub mod Dumping
