pub mod Valuing
pub mod Keeping
pub mod Lengths
