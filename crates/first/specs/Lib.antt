pub mod Marks
pub mod Blocks
