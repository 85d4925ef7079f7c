pub mod Bank
pub mod Operation
pub mod Calls
pub mod Lent
pub mod Kinds
