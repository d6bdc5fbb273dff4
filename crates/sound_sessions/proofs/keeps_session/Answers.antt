-- A session by itself, case by case. Assumes nothing.
use mathlib.Core.Logic.{inl, inr}
use Rattle.kernel.proofs.Decided.{fails}
use Rattle.sound_sessions.proofs.keeps_session.Goals as goal

pub returns-then-not-may_hold : goal.returns-then-not-may_hold
returns-then-not-may_hold c = fails c.may_hold.ensures c.if-not-may_hold.true (λ k. k.good _ (inl c.in-Write.is))

pub returns-then-not-may_hold-2 : goal.returns-then-not-may_hold-2
returns-then-not-may_hold-2 c = fails c.may_hold-in-Reading.ensures c.if-not-may_hold-2.true (λ k. k.good _ (inr c.in-Reading.is))
