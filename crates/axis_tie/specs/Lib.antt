pub mod Tied
pub mod Even
