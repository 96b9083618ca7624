pub mod Tests
pub mod Reading
pub mod Writing
pub mod RoundTrip
pub mod Numbers
pub mod Digits
