pub mod Sum
pub mod Spread
