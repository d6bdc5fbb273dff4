-- The laws behind demand 3, demand 3 of every run of the model, and the order of joining in it.
pub mod Beside
pub mod Buffers
pub mod Changed
pub mod Told
pub mod Deeds
pub mod Aside
pub mod Whole
pub mod Corollaries
pub mod Open
pub mod Frauds
pub mod Example
pub mod Fair
pub mod FairExample
pub mod Activations
pub mod ActivationsExample
