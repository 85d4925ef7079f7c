pub mod Counting
pub mod Offering
pub mod Lowering
pub mod OneBudget
