pub mod Places
pub mod Around
pub mod Lengths
