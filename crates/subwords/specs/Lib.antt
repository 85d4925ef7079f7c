pub mod Subword
pub mod Halves
