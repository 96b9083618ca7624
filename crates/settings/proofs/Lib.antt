pub mod Rows
pub mod Places
pub mod Numbers
pub mod Ranges
pub mod Stores
pub mod Walks
pub mod Resets
pub mod Laws
