pub mod Tests
pub mod Gathers
