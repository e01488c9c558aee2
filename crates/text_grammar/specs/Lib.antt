pub mod Line
pub mod Words
pub mod Reading
pub mod Writing
pub mod Steps
pub mod Follow
pub mod Choice
