pub mod Table
pub mod Values
pub mod Places
pub mod Answers
