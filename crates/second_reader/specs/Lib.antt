pub mod Bounds
pub mod Listed
