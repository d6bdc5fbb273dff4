pub mod Same
pub mod Runs
pub mod Differs
pub mod Printed
pub mod Replays
pub mod Verdict
