-- What a line means, and which lines spell which call.
pub mod Words
pub mod Between
pub mod Digits
pub mod Cut
pub mod Decimals
pub mod Language
pub mod Length
