-- Facts behind create.
pub mod Creatable
