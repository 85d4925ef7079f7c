pub mod Gather
pub mod Parts
