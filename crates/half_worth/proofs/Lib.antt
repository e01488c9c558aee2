pub mod Passing
pub mod Worths
pub mod Duality
pub mod Above
