pub mod Runs
pub mod Frames
pub mod Interrupts
pub mod Waiting
pub mod Continuing
pub mod NextFrames
pub mod HandFrames
