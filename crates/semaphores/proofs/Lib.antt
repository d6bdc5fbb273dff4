-- Facts behind the calls on semaphores.
pub mod Cases
