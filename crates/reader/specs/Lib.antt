pub mod Old
pub mod Offset
pub mod Passed
