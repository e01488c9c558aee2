pub mod Runs
pub mod Chips
