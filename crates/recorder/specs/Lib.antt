pub mod Tape
pub mod Keeps
