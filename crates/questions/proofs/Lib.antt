-- Facts behind the questions.
pub mod Numbers
