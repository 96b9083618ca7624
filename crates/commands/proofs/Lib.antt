pub mod Stepwise
pub mod Order
pub mod Told
pub mod Silence
pub mod Examples
pub mod Whole
