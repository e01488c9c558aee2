pub mod Slots
pub mod Amounts
pub mod Fit
pub mod Axes
