pub mod IsLegal
pub mod HeldNet
pub mod Answers
