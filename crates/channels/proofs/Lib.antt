pub mod Sets
pub mod Whole
pub mod Cases
pub mod Sofar
pub mod Laws
pub mod Examples
