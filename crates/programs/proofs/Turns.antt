-- What a turn comes to, program by program. Assumes nothing.
use mathlib.Core.Path.{◌≡◌, refl, ap, sym, subst, ◌∙◌}
use mathlib.Core.List.{List, []}
use Prim.Native.Nat.{ℕ, ◌<◌}
use native.Mathlib.Omega.{arith}
use lib.ListN.{length}
use Rattle.std.proofs.Common.{None}
use Rattle.language.specs.Meaning.{index_of, index_after}
use Rattle.kernel.specs.Kernel.{Kernel}
use Rattle.kernel.specs.Sound.{Sound}
use Rattle.kernel.specs.Channels.{same_bytes}
use Rattle.language.specs.Meaning.{call_of, sought, meaning}
use Rattle.language.proofs.Length.{long_line}
use Rattle.text.proofs.Follows.{nothing}
use Rattle.pieces.specs.Program.{longest, lines}
use Rattle.pieces.specs.Reads.{Taken}
use Rattle.script.specs.Output as Dick
use Rattle.script.specs.Step.{Shown}
use Rattle.script.proofs.Turns.{as_turn}
use Rattle.recorder.specs.declared.Begun.{Begun}
use Rattle.recorder.specs.Tape as Recorder
use Rattle.recorder.specs.Tape.{recorder}
use Rattle.recorder.specs.Keeps as Keeping
use Rattle.lister.specs.Listing.{lister}
use Rattle.replayer.specs.declared.Replayed.{Replayed}
use Rattle.replayer.specs.Replay as Replay
use Rattle.replayer.specs.Replay.{Replaying, replaying}
use Rattle.programs.specs.declared.Program.{Program}
use Rattle.programs.specs.declared.Program.TheVariants.{Dick, Record, Tape, Replay}
use Rattle.programs.specs.declared.Standing.{Standing}
use Rattle.programs.specs.Programs.{model, Kept, Ready, kept, recording, Turn}

-- Where no piece is begun.
abbrev stood : Begun → ℕ → Replayed → Standing
stood r l s = record { begun = 0; recorded = r; listed = l; replayed = s }

-- The words are sound still, and the block is what it was.
same_block : {w v block : List ℕ} (at : Standing) → Ready (kept w block at) → Sound v → (l : ℕ) (s : Replayed) → Ready (kept v block (stood at.recorded l s))
same_block at ready sound l s = record { sound = sound; size = ready.size; room = ready.room }

module _ (piece w block : List ℕ) (at : Standing) (ready : Ready (kept w block at)) where
  pub dick_turn : {v paper paper' : List ℕ} {printed n : ℕ} → Shown w v paper printed paper' n (call_of (meaning piece))
      → Turn Dick piece (kept w block at) (kept v block (stood at.recorded at.listed at.replayed)) paper printed paper' n
  unfolding Dick.turn
  dick_turn h =
      let t = as_turn h.stepped ready.sound in
      record {
        ready = same_block at ready t.sound at.listed at.replayed;
        none_begun = refl;
        taken = record {
          text = h.text;
          put = h.put.continued;
          short = omega (arith, h.put.short, h.put.continued.ends);
          keeps = λ s e. t.kernel ∙ ap (λ (k : Kernel). (Dick.turn piece k).state) e;
          prints = λ s e. t.prints ∙ ap (λ (k : Kernel). (Dick.turn piece k).text) e;
        };
      }

  pub record_turn : {v block' paper paper' : List ℕ} {printed n : ℕ} (b : Begun) → Keeping.Ready (record { words = v; block = block'; at = b })
      → Taken recorder Keeping.Kept Keeping.Keeps piece (recording (kept w block at)) (record { words = v; block = block'; at = b }) paper printed paper' n
      → Turn Record piece (kept w block at) (kept v block' (stood b at.listed at.replayed)) paper printed paper' n
  record_turn b r t = record { ready = r; none_begun = refl; taken = record { text = t.text; put = t.put; short = t.short; keeps = t.keeps; prints = t.prints } }

  pub tape_turn : {paper paper' : List ℕ} {printed n : ℕ} (l : ℕ) → Taken lister ℕ ◌≡◌ piece at.listed l paper printed paper' n
      → Turn Tape piece (kept w block at) (kept w block (stood at.recorded l at.replayed)) paper printed paper' n
  tape_turn l t =
      record {
        ready = same_block at ready ready.sound l at.replayed;
        none_begun = refl;
        taken = record { text = t.text; put = t.put; short = t.short; keeps = t.keeps; prints = t.prints };
      }

  pub replay_turn : {v paper : List ℕ} {printed : ℕ} (r : Replayed) → Sound v → replaying v r ≡ (Replay.turn piece (replaying w at.replayed)).state
      → Turn Replay piece (kept w block at) (kept v block (stood at.recorded at.listed r)) paper printed paper printed
  unfolding Replay.turn
  replay_turn {paper = paper} {printed} r sound h =
      record {
        ready = same_block at ready sound at.listed r;
        none_begun = refl;
        taken = record {
          text = [];
          put = nothing paper printed;
          short = omega arith;
          keeps = λ s e. h ∙ ap (λ (x : Replaying). (Replay.turn piece x).state) e;
          prints = λ s e. refl;
        };
      }

-- A program's turn is the turn of the one that it is.
pub of : {p q : Program} {piece : List ℕ} {k k' : Kept} {paper : List ℕ} {printed : ℕ} {paper' : List ℕ} {n : ℕ} → p ≡ q → Turn q piece k k' paper printed paper' n → Turn p piece k k' paper printed paper' n
of {piece = piece} {k} {k'} {paper} {printed} {paper'} {n} e t = subst (λ (x : Program). Turn x piece k k' paper printed paper' n) (sym e) t

no_line : meaning [] ≡ None
unfolding meaning sought same_bytes index_of index_after
no_line = refl

-- A line that is too long for a buffer has the turn of an empty one.
pub no_longer : (p : Program) (piece : List ℕ) → (model p).cut ≡ lines → longest < length piece → (s : (model p).State) → (model p).turn piece s ≡ (model p).turn [] s
unfolding Dick.turn Recorder.turn
no_longer Dick piece e l s = rw (long_line piece (omega arith), no_line)
no_longer Record piece e l s = rw (long_line piece (omega arith), no_line)
no_longer Tape piece e l s = absurd (let z : ◌≡◌ {A = ℕ} 0 1 = cc in omega arith)
no_longer Replay piece e l s = absurd (let z : ◌≡◌ {A = ℕ} 0 1 = cc in omega arith)
