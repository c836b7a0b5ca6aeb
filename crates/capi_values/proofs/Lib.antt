pub mod Flatness
pub mod TakenBack
