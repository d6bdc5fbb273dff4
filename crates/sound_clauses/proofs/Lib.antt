-- What the tests' proofs share.
pub mod Classes
pub mod Tasks
pub mod Clock
pub mod Sum
