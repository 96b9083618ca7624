pub mod Memory
pub mod Limits
