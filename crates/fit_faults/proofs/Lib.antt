pub mod Letters
pub mod Faults
