-- The three demands.
pub mod Functions
pub mod Model
pub mod Every
pub mod Played
pub mod Only
pub mod One
pub mod Two
pub mod Stops
pub mod Three
pub mod Activations
pub mod Example
