pub mod Sent
pub mod Checks
pub mod Asked
