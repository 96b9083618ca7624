pub mod Form
pub mod Answers
