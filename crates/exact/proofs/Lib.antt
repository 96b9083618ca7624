pub mod Fraction
pub mod Exact
pub mod Line
pub mod Words
