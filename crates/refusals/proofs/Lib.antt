pub mod Conditions
pub mod Answered
pub mod Results
pub mod Refused
pub mod RefusedTicks
pub mod Rules
pub mod Untouched
