pub mod Stores
pub mod Whole
pub mod Old
pub mod RoundTrips
pub mod Told
pub mod InRange
