pub mod Floats
pub mod Spelled
pub mod Inside
pub mod Typed
pub mod Stored
pub mod InColumn
pub mod RoundTrips
pub mod AsTuple
