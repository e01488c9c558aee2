pub mod Limits
pub mod Graph
pub mod Above
pub mod Solved
pub mod Build
pub mod Service
