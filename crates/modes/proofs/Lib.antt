pub mod Laws
pub mod Boundary
