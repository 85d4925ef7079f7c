pub mod Tile
pub mod Steps
