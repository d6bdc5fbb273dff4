-- What the parts of a tick come to.
pub mod Cases
pub mod Begun
pub mod Sweeping
