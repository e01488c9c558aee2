pub mod Printing
pub mod Short
