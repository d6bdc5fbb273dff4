-- The theorems over all calls.
pub mod Answers
pub mod SeenAs
pub mod Decisions
pub mod Soundness
pub mod Always
pub mod Before
pub mod Earliest
pub mod Joining
pub mod Fair
pub mod Lasting
pub mod Memory
pub mod Stops
pub mod Showings
