-- Facts behind the search for a free buffer.
pub mod Sessions
