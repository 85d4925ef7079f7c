pub mod PutOnce
pub mod Moves
pub mod MarkedPlaces
pub mod Theorems
pub mod Mirrors
