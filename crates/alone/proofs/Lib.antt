pub mod Route
pub mod Asking
pub mod AskedWords
pub mod OneRoute
pub mod AgreeFits
