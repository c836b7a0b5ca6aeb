pub mod Numbers
pub mod Fields
pub mod Cases
pub mod Values
pub mod There
pub mod Tests
pub mod Eights
pub mod Given
