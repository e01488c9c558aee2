pub mod Replaces
pub mod Betters
pub mod Unions
pub mod Closing
pub mod Overlaps
pub mod Branching
pub mod Undecided
