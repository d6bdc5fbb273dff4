-- What open needs, and the buffer that a session holds.
pub mod Room
pub mod Holds
