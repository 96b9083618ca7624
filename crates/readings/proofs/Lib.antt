pub mod Examples
pub mod Filling
pub mod PackPlaces
pub mod Places
pub mod Rows
pub mod Scaled
