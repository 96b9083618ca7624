pub mod Entries
pub mod Examples
