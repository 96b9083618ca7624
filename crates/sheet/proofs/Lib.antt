pub mod Behind
pub mod Parts
pub mod Lines
pub mod Runs
pub mod Sheets
pub mod Examples
