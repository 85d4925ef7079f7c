pub mod Bit
pub mod Refusal
