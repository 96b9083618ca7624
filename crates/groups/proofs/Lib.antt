pub mod Done
pub mod Groups
pub mod Altered
pub mod Unfitted
pub mod Counts
pub mod Resets
