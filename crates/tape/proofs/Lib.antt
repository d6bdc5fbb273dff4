pub mod Loops
pub mod Filled
pub mod Fields
pub mod Held
pub mod Named
pub mod Back
pub mod Again
