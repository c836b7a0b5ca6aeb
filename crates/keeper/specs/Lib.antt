pub mod Rules
pub mod Records
pub mod Machine
pub mod Runs
pub mod Turns
