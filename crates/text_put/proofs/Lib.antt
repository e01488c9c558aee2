pub mod Joined
pub mod Fields
pub mod Counted
pub mod Items
