-- Every call has an outcome by its function's contract, and every list of calls has a run. Assumes nothing.
use Rattle.std.specs.Prelude.{◌≡◌, List, ℕ}
use Rattle.std.proofs.Math.Option.{Option}
use Rattle.kernel.specs.declared.State.{State}
use Rattle.kernel.specs.declared.Reply.{Reply}
use Rattle.kernel.specs.Calls.{Call}
use Rattle.kernel.specs.Step.{step}
use Rattle.laws_runs.specs.Run.{trace}
use Rattle.laws_demands.specs.Functions.{Made}
use Rattle.laws_demands.specs.Run.{Run}

-- What the function of the call c gives by its contract, handed the state s and the message memory, which holds the bytes m.
pub record GivenBy (s : State) (m : List ℕ) (c : Call) : Type 0 where
  pub reply : Reply
  pub left : List ℕ
  pub shown : Option (List ℕ)
  pub made : Made s m reply c left shown

-- There is one, and no other.
pub record OneReply (s : State) (m : List ℕ) (c : Call) : Type 0 where
  pub given : GivenBy s m c
  pub only : {r : Reply} {left : List ℕ} {shown : Option (List ℕ)} → Made s m r c left shown → (r ≡ given.reply) × (left ≡ given.left) × (shown ≡ given.shown)

-- A run of the public functions, from the memory m on, that makes the calls cs, newest first: its trace is the model's.
pub record Played (m : List ℕ) (cs : List Call) : Type 0 where
  pub state : State
  pub memory : List ℕ
  pub run : Run m state memory (trace step m cs)
