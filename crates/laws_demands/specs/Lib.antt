-- A run of the public functions, and that it goes as the model's.
pub mod Functions
pub mod Run
pub mod AsModel
pub mod Activations
pub mod Every
pub mod Legal
