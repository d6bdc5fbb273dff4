pub mod Keeping
pub mod Calls
pub mod Printed
