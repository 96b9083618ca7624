pub mod Same
pub mod Given
pub mod Numbers
pub mod Leaves
