pub mod Words
pub mod Kind
pub mod Text
pub mod Tests
