pub mod Plane
pub mod Calls
pub mod Window
pub mod Steps
pub mod Beside
