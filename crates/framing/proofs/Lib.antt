pub mod Enclosing
pub mod FramingLaws
