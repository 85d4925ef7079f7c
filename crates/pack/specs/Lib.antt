pub mod Fields
pub mod Calls
pub mod Cursor
pub mod Moves
