pub mod Stage
pub mod Decoder
pub mod Calls
pub mod Word
