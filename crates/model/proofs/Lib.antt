pub mod FirstOf
pub mod Nets
pub mod Tests
pub mod Holding
pub mod HeldAgain
pub mod Corners
pub mod BlocksLong
