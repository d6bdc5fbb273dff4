-- Facts about pieces.
pub mod Past
