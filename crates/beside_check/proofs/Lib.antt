pub mod Testing
pub mod Reading
pub mod Numbers
