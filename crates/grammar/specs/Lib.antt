pub mod Grammar
pub mod Numbers
pub mod Views
