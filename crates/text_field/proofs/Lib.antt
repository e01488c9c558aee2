pub mod OneField
