pub mod Gathering
pub mod Weighing
pub mod Summing
