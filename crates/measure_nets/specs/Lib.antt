pub mod Box
pub mod Held
