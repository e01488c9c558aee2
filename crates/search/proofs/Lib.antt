pub mod Visiting
pub mod Nodes
pub mod RecordsRead
pub mod Placing
pub mod Demand3
pub mod Rooting
pub mod Lending
pub mod Firsts
