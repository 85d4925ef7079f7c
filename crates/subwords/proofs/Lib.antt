pub mod Weaving
pub mod Sizes
pub mod Words
pub mod Theorems
