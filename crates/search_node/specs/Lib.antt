pub mod Letters
pub mod Node
