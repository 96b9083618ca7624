pub mod Groups
pub mod Altered
pub mod Unfitted
pub mod Resets
pub mod Counts
