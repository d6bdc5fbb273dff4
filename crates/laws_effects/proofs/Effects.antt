-- Each call, where no row of the table applies, leaves a good kernel. Assumes nothing.
use mathlib.Core.Path.{◌≡◌}
use mathlib.Core.Bool.{true}
use mathlib.Core.List.{List}
use mathlib.Core.Option.{none}
use Prim.Native.Nat.{ℕ}
use native.Mathlib.Omega.{arith}
use Rattle.kernel.specs.declared.Class.TheVariants.{Nrt, Hard}
use Rattle.kernel.specs.Status.{stop_number}
use Rattle.kernel.specs.Kernel.{Kernel}
use Rattle.kernel.specs.Calls.{Verb, tick, create_hard, create_nrt, activate, sleep, cycle, end, kill, new_semaphore, delete, wait, signal, OnChannel, open_channel, begin_write, piece, put, begin_reading, showing, close, screen, Call, verb, question, on_channel, work, channel_effect, effect}
use Rattle.kernel.specs.Refusals.{first, rows}
use Rattle.kernel.specs.Good.{Good}
use Rattle.kernel.proofs.Allowed.{VerbAllowed, ChannelAllowed, Allowed, allowed}
use Rattle.laws_effects.proofs.Tick.{ticked}
use Rattle.laws_effects.proofs.Tasks.{create_good, activate_good, sleep_good, cycle_good, end_good, kill_good}
use Rattle.laws_effects.proofs.Semaphores.{new_semaphore_good, delete_good, wait_good, signal_good}
use Rattle.laws_effects.proofs.Channels.{open_good, begin_write_good, put_good, begin_reading_good, close_good}

module _ {k : Kernel} (g : Good k) (o : stop_number k.stop ≡ 0) where
  verb_good : (v : Verb) → VerbAllowed v k → Good (work v k).kernel
  verb_good tick a = ticked g o
  verb_good (create_hard p c) a = create_good g o (Hard p c) a.0 a.1 a.2
  verb_good (create_nrt p) a = create_good g o (Nrt p) a.0 a.1 (omega (arith, g.shared.total_fits))
  verb_good (activate n) a = activate_good g o n a.0 a.1
  verb_good sleep a = sleep_good g o a
  verb_good cycle a = cycle_good g o a.0 a.1
  verb_good end a = end_good g o a
  verb_good (kill n) a = kill_good g o n a.1.0 a.0 a.1.1
  verb_good (new_semaphore n) a = new_semaphore_good g o n a.0 a.1
  verb_good (delete s) a = delete_good g o s a.0.0 a.1
  verb_good (wait s) a = wait_good g o s a.0 a.1 a.2.0 a.2.1
  verb_good (signal s) a = signal_good g o s a.0.0 a.1

  channel_good : (c : OnChannel) (m : List ℕ) → ChannelAllowed c k m → Good (channel_effect c k m).kernel
  channel_good (open_channel n b) m a = open_good g o n b a.0 a.1 a.2
  channel_good (begin_write c) m a = begin_write_good g o c a.1 a.3
  channel_good (piece c b bs) m a = g
  channel_good (put c) m a = put_good g o c a.1 a.2
  channel_good (begin_reading c) m a = begin_reading_good g o c a.1 a.3
  channel_good (showing c) m a = g
  channel_good (close c) m a = close_good g o c a.1
  channel_good (screen c text) m a = g

  stays_good : (c : Call) (m : List ℕ) → Allowed c k m → Good (effect c k m).kernel
  unfolding effect
  stays_good (verb v) m a = verb_good v a
  stays_good (question q) m a = g
  stays_good (on_channel c) m a = channel_good c m a

-- **effect_good**: a call to which no row applies leaves a good kernel.
pub effect_good : (c : Call) (k : Kernel) (m : List ℕ) → Good k → first (rows c (record { sound = true; kernel = k; memory = m })) ≡ none → Good (effect c k m).kernel
effect_good c k m g e = let a = allowed (record { sound = true; kernel = k; memory = m }) c e in stays_good g a.going c m a.allowed
