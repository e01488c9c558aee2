pub mod Puts
pub mod Corners
