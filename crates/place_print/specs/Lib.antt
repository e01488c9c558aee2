pub mod Printed
pub mod DemandZ
