pub mod Answer
pub mod Chain
