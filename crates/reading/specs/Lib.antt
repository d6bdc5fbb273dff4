-- What a showing hands back.
pub mod Message
