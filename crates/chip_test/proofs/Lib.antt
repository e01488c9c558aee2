pub mod Fields
pub mod Steps
pub mod Runs
pub mod Parts
pub mod ChipRun
pub mod Counts
pub mod Answers
