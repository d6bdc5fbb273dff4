pub mod Language
pub mod Meaning
