pub mod Results
pub mod Scanning
pub mod Serving
pub mod Sessions
pub mod Told
