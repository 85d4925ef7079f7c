pub mod Storing
pub mod Walking
pub mod Halving
pub mod BlockHalves
pub mod Entries
pub mod MarkWords
pub mod Finish
