pub mod Tables
pub mod Read
