pub mod Numbers
pub mod Cursors
pub mod Fields
pub mod Readers
pub mod Lists
pub mod ValueEnd
pub mod LowBytes
