pub mod Room
pub mod Writing
pub mod Meaning
