pub mod Writing
pub mod Short
