pub mod Image
pub mod Room
