pub mod Values
pub mod Follow
pub mod Entry
pub mod Added
pub mod Item
pub mod OneLine
pub mod Lines
