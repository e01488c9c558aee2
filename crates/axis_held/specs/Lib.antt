pub mod Accept
pub mod Ends
pub mod Graphs
