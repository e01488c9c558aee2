pub mod SpotsRead
pub mod LinesRead
pub mod InRange
