pub mod Records
pub mod Lettering
pub mod Asking
