-- What is written to the words.
pub mod Writes
