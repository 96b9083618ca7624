pub mod Parts
pub mod Positions
pub mod Measured
pub mod Battery
