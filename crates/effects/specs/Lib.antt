pub mod Effects
pub mod Parts
