pub mod Groups
pub mod Calls
pub mod Destinations
