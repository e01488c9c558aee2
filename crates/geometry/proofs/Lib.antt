pub mod Tests
pub mod Clear
pub mod Stored
pub mod Swap
