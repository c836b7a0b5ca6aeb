pub mod Top
pub mod Groups
pub mod Fast
pub mod Offset
pub mod Stops
pub mod OldTuples
