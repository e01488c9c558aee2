pub mod Earlier
pub mod Chosen
