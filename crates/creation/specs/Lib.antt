-- What creating a task asks.
pub mod Creatable
