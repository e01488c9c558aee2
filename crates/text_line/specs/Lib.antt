pub mod Held
pub mod Layout
pub mod Steps
