pub mod Table
pub mod Decode
pub mod Answers
pub mod Checks
