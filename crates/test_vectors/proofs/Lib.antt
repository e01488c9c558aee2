pub mod Prefix
pub mod Products
