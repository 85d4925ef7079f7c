pub mod OperationLists
pub mod Runs
pub mod StatusBits
pub mod BytesKept
pub mod Remainders
pub mod Ends
