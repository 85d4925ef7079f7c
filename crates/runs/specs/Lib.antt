pub mod StatusByte
pub mod Run
