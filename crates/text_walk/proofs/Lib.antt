pub mod Finding
pub mod Walking
pub mod Means
