pub mod FitRecords
pub mod Cornering
pub mod Joining
