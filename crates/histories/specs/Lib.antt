pub mod Channels
pub mod BankCalls
pub mod Continued
pub mod Frames
