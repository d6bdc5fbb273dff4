pub mod Block
pub mod Reader
pub mod Writing
pub mod Form
