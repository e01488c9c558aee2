pub mod Duality
pub mod Gathering
