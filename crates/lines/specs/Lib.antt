pub mod Tails
pub mod Lines
