pub mod Words
pub mod Kind
pub mod Text
pub mod Valid
pub mod Passed
pub mod Faults
pub mod Tests
