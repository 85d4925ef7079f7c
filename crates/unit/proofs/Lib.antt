pub mod Held
pub mod Tables
pub mod RegistersTested
pub mod TableRows
pub mod Carried
pub mod KeptNetworks
pub mod LowestRefusals
pub mod Theorems
