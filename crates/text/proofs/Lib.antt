-- How numbers are spelled, how texts follow each other, and what is read back.
pub mod Digits
pub mod Follows
pub mod Signed
pub mod ReadBack
