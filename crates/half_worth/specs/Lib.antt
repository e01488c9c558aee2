pub mod Amounts
pub mod Tests
