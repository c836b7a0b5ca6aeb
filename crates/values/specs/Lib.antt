pub mod Types
pub mod Steps
pub mod AsRead
pub mod Readers
pub mod Writes
pub mod Formed
