-- What is read after a write, and what is seen again.
pub mod Tables
pub mod Puts
pub mod Seen
pub mod Beside
pub mod Records
pub mod Numbers
pub mod Entries
