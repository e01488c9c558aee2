pub mod Answer
pub mod Results
