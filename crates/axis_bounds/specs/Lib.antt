pub mod Axis
pub mod Listed
pub mod Answer
pub mod Graph
pub mod Held
pub mod Half
