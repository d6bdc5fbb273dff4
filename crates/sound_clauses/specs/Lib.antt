-- What the tests of tasks and shares are told.
pub mod Task
