pub mod Boxes
pub mod InTurn
pub mod TurnLegal
