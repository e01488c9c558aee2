pub mod Values
pub mod Nets
pub mod Parts
