pub mod FourChildren
pub mod Differing
