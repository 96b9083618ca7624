pub mod Fraction
pub mod Exact
pub mod Line
