pub mod Children
pub mod Turning
