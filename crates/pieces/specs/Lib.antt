pub mod Program
pub mod Reads
