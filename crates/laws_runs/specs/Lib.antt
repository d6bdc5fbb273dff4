-- What a run is, what its trace says, and what is promised of it.
pub mod Trace
pub mod Messages
pub mod Whole
pub mod Run
pub mod Unput
pub mod Strokes
pub mod Open
pub mod Frauds
pub mod Example
pub mod Fair
