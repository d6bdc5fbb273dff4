-- What the clauses about channels and sessions say of one record at a time.
pub mod Channel
pub mod Session
