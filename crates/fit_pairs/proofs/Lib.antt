pub mod Cursors
pub mod Stepping
pub mod Places
pub mod Counts
