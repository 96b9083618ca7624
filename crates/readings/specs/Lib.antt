pub mod Readings
pub mod Table
pub mod Layout
pub mod Packs
