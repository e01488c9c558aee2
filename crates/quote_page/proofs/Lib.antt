pub mod Held
pub mod Answering
