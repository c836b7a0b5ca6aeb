pub mod Parts
pub mod Starts
pub mod Steps
pub mod Visits
pub mod Readers
pub mod Code
