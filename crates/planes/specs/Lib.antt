pub mod Planes
pub mod Steps
pub mod Rounds
pub mod Kinds
