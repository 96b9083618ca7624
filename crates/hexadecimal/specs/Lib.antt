pub mod Hex
pub mod Passes
pub mod Answers
