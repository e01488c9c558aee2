pub mod SameText
pub mod Short
pub mod Ends
pub mod Holds
