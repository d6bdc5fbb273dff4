-- What the code does to the links, and what that means for the lists.
pub mod Heads
pub mod Scans
pub mod Relinks
pub mod Out
pub mod Moved
pub mod Reclassed
