pub mod Half
pub mod Kept
pub mod Exchange
pub mod Result
