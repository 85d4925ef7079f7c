pub mod Sliding
pub mod Border
pub mod Rows
pub mod PlaneAnswers
pub mod Rule
pub mod Theorems
pub mod Drawn
