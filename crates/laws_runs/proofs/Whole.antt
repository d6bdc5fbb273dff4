-- **Demand 3** of every run of the model. Assumes nothing.
use mathlib.Core.Path.{◌≡◌, refl, sym, ap, subst, ◌∙◌}
use mathlib.Core.Bool.{true, false≢true}
use mathlib.Core.List.{List, [], ◌∷◌}
use mathlib.Core.Option.{Option, none, some}
use Prim.Native.Nat.{ℕ}
use lib.IntN.{ℤ}
use Rattle.kernel.specs.declared.Channel.{Channel}
use Rattle.kernel.specs.declared.Session.{Session}
use Rattle.kernel.specs.declared.Session.TheVariants.{Closed, Write, Reading}
use Rattle.kernel.specs.Kernel.{Kernel, channel}
use Rattle.kernel.specs.Channels.{own, buffer, is_reading}
use Rattle.kernel.specs.Calls.{open_channel, begin_write, piece, put, begin_reading, showing, close, screen, Call, verb, question, on_channel, Shown, Effect, effect}
use Rattle.kernel.specs.Refusals.{first, rows}
use Rattle.kernel.specs.Step.{Outcome, refuse, accept, by_table, step}
use Rattle.kernel.specs.Fresh.{fresh}
use Rattle.kernel.specs.Good.{Good}
use Rattle.kernel.proofs.Allowed.{Allowed, allowed}
use Rattle.kernel.proofs.Fresh.{no_channel, no_session, fresh_good}
use Rattle.laws_effects.proofs.Effects.{effect_good}
use Rattle.laws_runs.specs.Trace.{Event, Ask, new, does, message, nothing, asks}
use Rattle.laws_runs.specs.Messages.{log, size_of, opened}
use Rattle.laws_runs.specs.Whole.{Gave, Showed, Whole}
use Rattle.laws_runs.specs.Run.{bytes_of, World, handed, event, after, trace}
use Rattle.laws_runs.proofs.Aside.{size_refused}
use Rattle.laws_runs.proofs.Changed.{view, changed}
use Rattle.laws_runs.proofs.Deeds.{tells}
use Rattle.laws_runs.proofs.Buffers.{bytes_in}
use Rattle.laws_runs.proofs.Told.{Carries, Told, seen_told}

-- ---- one call

module _ (w : World) (c : Call) where
  abbrev pub done : Effect
  done = effect c w.kernel w.memory

  -- What holds of the call where it is refused, and where no row applies to it, holds of its outcome.
  pub either_way : (P : Outcome → Type 0) → ((x : ℤ) → P (refuse x done (handed w))) → (first (rows c (handed w)) ≡ none → P (accept done)) → P (step c (handed w))
  unfolding step
  either_way P refused taken = go (first (rows c (handed w))) refl
    where
      go : (o : Option ℤ) → first (rows c (handed w)) ≡ o → P (by_table o done (handed w))
      go (some x) e = refused x
      go none e = taken e

-- A reading is that of its buffer.
is_reading_of : (z : Session) → is_reading z ≡ true → z ≡ Reading (buffer z)
is_reading_of Closed e = absurd (false≢true e)
is_reading_of (Write b) e = absurd (false≢true e)
is_reading_of (Reading b) e = refl

module _ {h : List Event} (w : World) (g : Good w.kernel) (told : Told h (view w.kernel) w.memory) where
  abbrev k : Kernel
  k = w.kernel

  abbrev m : List ℕ
  m = w.memory

  told_next : (c : Call) → Told (event c w (step c (handed w)) ∷ h) (view (step c (handed w)).kernel) (step c (handed w)).memory
  told_next c =
      either_way w c (λ o. Told (event c w o ∷ h) (view o.kernel) o.memory)
      (λ x. record { size = λ d. told.size d ∙ sym (size_refused (event c w (refuse x (done w c) (handed w))) refl d h); latest = told.latest; carries = told.carries; open_is = told.open_is })
      (λ e. let a = (allowed (handed w) c e).allowed in seen_told (changed g c m a) (tells g told c a))

  -- What the answer to this ask must show.
  abbrev Right : Ask → Shown → Type 0
  Right (new n) s = Unit {0}
  Right (does c d) s = Unit {0}
  Right (message c text) s = Gave (opened (size_of c h) k.running (log c h)) (bytes_of s m text)
  Right nothing s = Unit {0}

  message_held : (c : ℕ) → is_reading (own k c) ≡ true → Gave (opened (size_of c h) k.running (log c h)) (some (bytes_in m c (channel k c).size (buffer (own k c))))
  message_held c e =
      let n = (channel k c).size in
      record {
        bytes = bytes_in m c n (buffer (own k c));
        message_is =
            ap (λ (s : ℕ). opened s k.running (log c h)) (sym (told.size c))
            ∙ subst (Carries n (log c h) (bytes_in m c n) k.running) (is_reading_of (own k c) e) (told.carries c k.running g.runs.running);
        shown_is = refl;
      }

  right : (c : Call) → Allowed c k m → Right (asks c) (effect c k m).shown
  unfolding effect
  right (verb v) a = tt
  right (question q) a = tt
  right (on_channel (open_channel n b)) a = tt
  right (on_channel (begin_write c)) a = tt
  right (on_channel (piece c f bs)) a = tt
  right (on_channel (put c)) a = tt
  right (on_channel (begin_reading c)) a = tt
  right (on_channel (showing c)) a = message_held c a.2
  right (on_channel (close c)) a = tt
  right (on_channel (screen c text)) a = message_held c a.2

  shown_next : (c : Call) (i : ℕ) → Showed i (event c w (step c (handed w))) → Gave (opened (size_of i h) k.running (log i h)) (event c w (step c (handed w))).shown
  shown_next c =
      either_way w c (λ o. (i : ℕ) → Showed i (event c w o) → Gave (opened (size_of i h) k.running (log i h)) (event c w o).shown) (λ x i s. absurd (false≢true s.taken))
      (λ e i s.
      rw s.asked
      (subst (λ (a : Ask). Right a (effect c k m).shown) s.asked (right c (allowed (handed w) c e).allowed)))

-- ---- every run

-- A fresh kernel has no channel.
told_fresh : (m : List ℕ) → Told [] (view fresh) m
told_fresh m =
    record {
      size = λ c. ap (λ (x : Channel). x.size) (no_channel c);
      latest = λ c. rw no_channel refl;
      carries = λ c t l. rw no_session tt;
      open_is = λ c t l. rw no_session refl;
    }

module _ (m : List ℕ) where
  -- **run_good**: every kernel of every run is good.
  pub run_good : (cs : List Call) → Good (after step m cs).kernel
  unfolding after
  run_good [] = fresh_good
  run_good (c ∷ cs) = let w = after step m cs in either_way w c (λ o. Good o.kernel) (λ x. run_good cs) (effect_good c w.kernel w.memory (run_good cs))

  pub told_run : (cs : List Call) → Told (trace step m cs) (view (after step m cs).kernel) (after step m cs).memory
  unfolding after trace
  told_run [] = told_fresh m
  told_run (c ∷ cs) = told_next (after step m cs) (run_good cs) (told_run cs) c

  -- **whole**: demand 3 holds of every run.
  pub whole : (cs : List Call) → Whole (trace step m cs)
  unfolding trace
  whole [] = tt
  whole (c ∷ cs) = (shown_next (after step m cs) (run_good cs) (told_run cs) c, whole cs)
