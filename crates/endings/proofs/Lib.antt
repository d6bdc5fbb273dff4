-- Facts behind end and kill.
pub mod Closing
pub mod Ends
