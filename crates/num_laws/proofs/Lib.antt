pub mod Sums
pub mod Terms
pub mod Spreads
pub mod Differences
pub mod Stores
pub mod Lattice
