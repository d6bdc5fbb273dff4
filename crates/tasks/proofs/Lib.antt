-- Facts behind the calls on tasks.
pub mod Fits
pub mod Inside
pub mod Cycles
