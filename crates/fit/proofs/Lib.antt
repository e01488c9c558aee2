pub mod Corners
pub mod Listing
pub mod Asked
pub mod Placing
pub mod Filling
pub mod Answering
pub mod Outcomes
