pub mod Answers
pub mod Zeros
pub mod Ways
pub mod Optimum
pub mod Graphs
pub mod SolvedNets
pub mod Refutes
