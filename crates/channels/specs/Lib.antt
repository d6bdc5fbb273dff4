-- What the calls on an open channel need.
pub mod Session
