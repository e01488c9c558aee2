pub mod Turning
pub mod Pairing
pub mod Meant
