pub mod Reading
pub mod Back
