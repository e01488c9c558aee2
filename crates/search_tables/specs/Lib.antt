pub mod Tables
pub mod Entries
pub mod Dots
pub mod Made
