pub mod Output
pub mod Step
pub mod Document
