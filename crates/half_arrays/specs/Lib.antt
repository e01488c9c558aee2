pub mod Arrays
pub mod State
pub mod Says
