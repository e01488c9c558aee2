pub mod Growth
pub mod Push
pub mod Augment
pub mod Admit
pub mod Flows
pub mod Start
