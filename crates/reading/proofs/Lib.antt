-- The buffer that is read, and from the verdict to the promise of a showing.
pub mod Read
pub mod HandsBack
