-- What the tests of the code mean, and that together they are the clauses.
pub mod Channel
