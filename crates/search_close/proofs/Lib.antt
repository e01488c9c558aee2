pub mod Deciding
pub mod Closings
pub mod Stepping
