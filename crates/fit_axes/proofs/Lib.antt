pub mod Copies
pub mod Taken
pub mod Pairing
pub mod MadeAxes
pub mod Directions
pub mod Mapped
