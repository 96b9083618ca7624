pub mod Types
pub mod Values
pub mod Answers
