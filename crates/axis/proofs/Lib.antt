pub mod Certified
pub mod Judged
