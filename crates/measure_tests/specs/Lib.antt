pub mod Positions
pub mod Tested
