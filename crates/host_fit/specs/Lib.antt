pub mod FitText
pub mod Refusing
