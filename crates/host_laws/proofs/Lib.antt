pub mod Refusals
pub mod EmptyString
pub mod QuotingPage
pub mod RecordBeside
pub mod NetBoxes
