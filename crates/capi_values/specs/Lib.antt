pub mod Flat
pub mod Stepping
