pub mod Begun
pub mod Parts
pub mod Blocks
pub mod Whole
