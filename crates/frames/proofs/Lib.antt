pub mod Scanning
pub mod Search
pub mod Numbers
