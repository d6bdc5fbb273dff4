pub mod Made
pub mod Again
pub mod Fits
