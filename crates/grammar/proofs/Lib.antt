pub mod Bytes
pub mod Together
pub mod Digits
pub mod Signs
pub mod Words
pub mod Examples
pub mod Refusals
