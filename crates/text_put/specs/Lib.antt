pub mod LineText
pub mod Run
