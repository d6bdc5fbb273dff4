-- The walks of the test, and what the tests decide together.
pub mod Walks
pub mod Parts
