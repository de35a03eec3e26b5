pub mod Scans
pub mod Made
pub mod Tables
pub mod Holders
