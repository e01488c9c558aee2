pub mod FitDone
pub mod Coding
