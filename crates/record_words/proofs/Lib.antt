pub mod Words
pub mod Entry
