pub mod Permutation
pub mod First
pub mod Calls
pub mod Demand3
pub mod Alike
