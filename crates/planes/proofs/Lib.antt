pub mod Origins
pub mod PlaneRules
pub mod KeptHalves
pub mod Crossing
pub mod Widths
pub mod StepLists
pub mod Theorems
