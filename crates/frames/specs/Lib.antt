pub mod Frames
pub mod First
pub mod Answers
