pub mod Printing
pub mod PrintedShort
pub mod Refusals
pub mod DemandZ
