pub mod NetPins
pub mod Accepting
pub mod HeldAxes
pub mod Built
pub mod HeldGraphs
pub mod Placing
pub mod Judging
