pub mod Pattern
pub mod Digest
pub mod Kinds
pub mod Ticks
pub mod Line
