pub mod Digits
pub mod FirstByte
pub mod RoundTrip
pub mod Reading
pub mod Sign
pub mod Wrote
pub mod Writing
