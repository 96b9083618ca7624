-- What the contracts of `modes` cite. Assumes nothing.
pub mod Table
pub mod Commands
