pub mod Scoring
pub mod Choosing
