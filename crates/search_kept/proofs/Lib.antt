pub mod Raising
pub mod Adding
