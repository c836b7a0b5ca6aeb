pub mod Filled
pub mod Flat
pub mod Stepping
pub mod Sessions
