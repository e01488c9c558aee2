pub mod Reasoning
