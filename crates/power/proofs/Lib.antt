pub mod Lift
pub mod Step
pub mod Theorem
pub mod Simulation
pub mod Stages
pub mod Tight
