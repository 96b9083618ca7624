pub mod Conditions
pub mod Refused
pub mod RefusedTicks
pub mod Rules
pub mod Untouched
