pub mod Products
pub mod Chains
pub mod Answering
pub mod Smallest
pub mod Fitting
