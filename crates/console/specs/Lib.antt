pub mod Buffer
pub mod Printed
