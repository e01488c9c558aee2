pub mod Number
pub mod Held
pub mod Steps
