-- What the test asks of each record, each queue and each task.
pub mod Tests
