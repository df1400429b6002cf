pub mod Types
pub mod Numbers
pub mod Layouts
pub mod Reading
pub mod Writing
pub mod RoundTrips
