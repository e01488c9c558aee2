pub mod Step
pub mod Meaning
pub mod Limits
pub mod Made
pub mod Held
pub mod Counted
pub mod Corners
pub mod Blocks
