pub mod Runs
pub mod Machine
pub mod Claim
pub mod Tight
