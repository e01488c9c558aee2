pub mod Answers
pub mod Ranges
pub mod Arcs
pub mod Nets
