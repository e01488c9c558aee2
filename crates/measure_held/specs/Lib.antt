pub mod Answer
pub mod Held
