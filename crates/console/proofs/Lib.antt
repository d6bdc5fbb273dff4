pub mod Exchanges
pub mod Output
pub mod Shift
