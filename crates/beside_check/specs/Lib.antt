pub mod Beside
