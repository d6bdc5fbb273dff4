pub mod Fresh
pub mod Turns
pub mod Bytes
pub mod Feeding
pub mod Ending
pub mod Ends
