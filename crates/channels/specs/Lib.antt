-- What the contracts of `channels` cite. Assumes nothing.
pub mod Sets
pub mod Chan
pub mod Operations
pub mod Counting
