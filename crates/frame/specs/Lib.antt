pub mod Frame
pub mod Offers
