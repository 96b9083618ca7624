pub mod Watchdog
pub mod Report
