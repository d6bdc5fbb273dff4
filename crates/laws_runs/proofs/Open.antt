-- When the calls on channels are accepted, by the trace alone, in every run of the model. Assumes nothing.
use mathlib.Core.Path.{◌≡◌, refl, sym, ap, subst, ◌∙◌}
use mathlib.Core.Bool.{Bool, true, false, ◌&&◌, true≢false, and-true, and-false}
use mathlib.Core.List.{List, [], ◌∷◌}
use Prim.Native.Nat.{ℕ, ◌+◌, ◌<◌}
use native.Mathlib.Omega.{arith}
use lib.ListN.{length}
use lib.Dec.{leb, ltb, eqb}
use borrow.Author.Tests.{eqb-true, ltb-true, ltb-false, le-leb, lt-leb, eq-eqb, ne_eqb}
use Rattle.kernel.specs.declared.Channel.{Channel}
use Rattle.std.specs.declared.option.Option.{Option}
use Rattle.std.specs.Prelude.{None, Some}
use Rattle.kernel.specs.declared.Session.{Session}
use Rattle.kernel.specs.declared.Session.TheVariants.{Closed, Write, Reading}
use Rattle.kernel.specs.Sizes.{task_count, channel_count, memory_size}
use Rattle.kernel.specs.Status.{stop_number}
use Rattle.kernel.specs.Kernel.{Kernel, channel, session}
use Rattle.kernel.specs.Channels.{own, lowest_buffer, is_closed, is_write, is_reading, put_before}
use Rattle.kernel.specs.Calls.{begin_write, piece, put, begin_reading, showing, close, screen, Call, on_channel}
use Rattle.kernel.specs.Refusals.{Row, when, unless, -1, -2, -6, -7, -10, -13, -14, first, no_channel, lent, rows}
use Rattle.kernel.specs.Step.{by_table, step}
use Rattle.kernel.specs.Good.{Good}
use Rattle.kernel.proofs.Allowed.{ChannelInUse, OfItsSize, channel_in_use, allowed}
use Rattle.laws_effects.proofs.Free.{some_free}
use Rattle.laws_promises.proofs.Memory.{wrote}
use Rattle.laws_runs.specs.Trace.{Event, accepted}
use Rattle.laws_runs.specs.Messages.{log, size_of, last_put}
use Rattle.laws_runs.specs.Open.{Open, no_session, closed, writing, reading, open_by, Going, was_put, Exact, Exactly}
use Rattle.laws_runs.specs.Run.{World, handed, event, after, trace}
use Rattle.laws_runs.proofs.Changed.{view}
use Rattle.laws_runs.proofs.Buffers.{every_number}
use Rattle.laws_runs.proofs.Told.{kind, message_in, Told}
use Rattle.laws_runs.proofs.Whole.{done, either_way, run_good, told_run}

-- What is open says what the session is.
none_open : (z : Session) → kind z ≡ no_session → z ≡ Closed
none_open Closed e = refl
none_open (Write b) e = absurd (let z : ◌≡◌ {A = ℕ} 0 1 = cc in omega arith)
none_open (Reading b) e = absurd (let z : ◌≡◌ {A = ℕ} 0 1 = cc in omega arith)

kind_closed : (z : Session) → closed (kind z) ≡ is_closed z
kind_closed Closed = refl
kind_closed (Write b) = refl
kind_closed (Reading b) = refl

kind_write : (z : Session) → writing (kind z) ≡ is_write z
kind_write Closed = refl
kind_write (Write b) = refl
kind_write (Reading b) = refl

kind_reading : (z : Session) → reading (kind z) ≡ is_reading z
kind_reading Closed = refl
kind_reading (Write b) = refl
kind_reading (Reading b) = refl

-- There is a latest message where something was put.
message_put : (x : Option ℕ) (bytes_in : ℕ → List ℕ) → was_put (message_in x bytes_in) ≡ put_before x
message_put None bytes_in = refl
message_put (Some b) bytes_in = refl

module _ {h : List Event} (w : World) (g : Good w.kernel) (size : OfItsSize w.memory) (told : Told h (view w.kernel) w.memory) where
  abbrev k : Kernel
  k = w.kernel

  abbrev stopped : ℕ
  stopped = stop_number k.stop

  -- On a channel that is not in use there is no session, and nothing was put.
  not_there : (c : ℕ) → no_channel k c ≡ true → (own k c ≡ Closed) × ((channel k c).latest ≡ None)
  not_there =
      every_number g (λ c. no_channel k c ≡ true → (own k c ≡ Closed) × ((channel k c).latest ≡ None))
      (λ c l e.
      let u = (g.channels c l).unused (eqb-true (channel k c).size 0 (rw (lt-leb channel_count c l) at e)) in
      (u.sessions k.running g.runs.running, u.latest))
      (λ c blank none e. (none k.running, ap (λ (x : Channel). x.latest) blank))

  -- The rows of a call that needs a session of this kind on channel d.
  abbrev needing : ℕ → (Session → Bool) → List Row → List Row
  needing d p rs = lent (handed w) (when -6 (no_channel k d) ∷ unless -14 (p (own k d)) ∷ rs)

  -- Where there is no channel, no session is open.
  none_there : (d : ℕ) (p : Session → Bool) (more : Bool) → p Closed ≡ false → no_channel k d ≡ true → (p (own k d) && more) ≡ false
  none_there d p more none e = rw (ap p (not_there d e).0 ∙ none) refl

  module _ (c : Call) where
    -- The call, answered by these rows.
    abbrev by_rows : List Row → Event
    by_rows rs = event c w (by_table (first rs) (done w c) (handed w))

    -- Until the kernel stops, its own rows answer.
    going_on : (rs : List Row) → Going (by_rows (lent (handed w) rs)) → accepted (by_rows (lent (handed w) rs)) ≡ accepted (by_rows rs)
    going_on rs = rw (eq-eqb (length w.memory) memory_size size) (go (eqb stopped 1) (eqb stopped 2))
      where
        go : (x y : Bool) → Going (by_rows (when -1 x ∷ when -2 y ∷ rs)) → accepted (by_rows (when -1 x ∷ when -2 y ∷ rs)) ≡ accepted (by_rows rs)
        go true y on = absurd (on.0 refl)
        go false true on = absurd (on.1 refl)
        go false false on = refl

    -- It is accepted where there is such a session, and no row behind refuses it.
    needs : (d : ℕ) (p : Session → Bool) (rs : List Row) (more : Bool) → (no_channel k d ≡ true → (p (own k d) && more) ≡ false)
        → (ChannelInUse k d → accepted (by_rows rs) ≡ more) → Going (by_rows (needing d p rs)) → accepted (by_rows (needing d p rs)) ≡ (p (own k d) && more)
    needs d p rs more off behind on =
        going_on (when -6 (no_channel k d) ∷ unless -14 (p (own k d)) ∷ rs) on
        ∙ go (no_channel k d) (p (own k d)) off (λ e. behind (channel_in_use k d e))
      where
        go : (x z : Bool) → (x ≡ true → (z && more) ≡ false) → (x ≡ false → accepted (by_rows rs) ≡ more) → accepted (by_rows (when -6 x ∷ unless -14 z ∷ rs)) ≡ (z && more)
        go true z off behind = sym (off refl)
        go false true off behind = behind refl
        go false false off behind = refl

    needs_only : (d : ℕ) (p : Session → Bool) → p Closed ≡ false → Going (by_rows (needing d p [])) → accepted (by_rows (needing d p [])) ≡ p (own k d)
    needs_only d p none on = needs d p [] true (none_there d p true none) (λ u. refl) on ∙ and-true (p (own k d))

  abbrev now : Call → Event
  now c = by_rows c (rows c (handed w))

  -- The session is as the trace tells.
  by_open : (p : Open → Bool) (q : Session → Bool) → ((z : Session) → p (kind z) ≡ q z) → (d : ℕ) → q (own k d) ≡ p (open_by k.running d h)
  by_open p q same d = sym (ap p (told.open_is d k.running g.runs.running) ∙ same (own k d))

  -- So is whether something was put.
  by_put : (d : ℕ) → put_before (channel k d).latest ≡ was_put (last_put (size_of d h) (log d h))
  by_put d = sym (rw (← told.size d) (ap was_put (told.latest d) ∙ message_put (channel k d).latest _))

  -- A piece that ends at n ends inside the message.
  fits : (c : Call) (d n : ℕ) → accepted (by_rows c (when -7 (ltb (channel k d).size n) ∷ [])) ≡ leb n (size_of d h)
  fits c d n = rw (told.size d) (go (ltb (size_of d h) n) refl)
    where
      go : (b : Bool) → ltb (size_of d h) n ≡ b → accepted (by_rows c (when -7 b ∷ [])) ≡ leb n (size_of d h)
      go true z = sym (lt-leb n (size_of d h) (ltb-true (size_of d h) n z))
      go false z = sym (le-leb n (size_of d h) (ltb-false (size_of d h) n z))

  -- A begin write on a channel that is in use, where no task has a session.
  begun : (d : ℕ) → ChannelInUse k d → ((t : ℕ) → open_by t d h ≡ no_session) → Going (now (on_channel (begin_write d))) → accepted (now (on_channel (begin_write d))) ≡ true
  begun d u none on =
      let all_closed : (t : ℕ) → t < task_count → session k d t ≡ Closed = λ t l. none_open (session k d t) (sym (told.open_is d t l) ∙ none t) in
      let used : no_channel k d ≡ false = rw (lt-leb channel_count d u.0, ne_eqb (channel k d).size 0 u.1) refl in
      let free = some_free k d all_closed ((g.channels d u.0).used (omega (arith, u.1))).fewest in
      needs (on_channel (begin_write d)) d is_closed (when -10 (eqb (lowest_buffer k d) (channel k d).buffers) ∷ []) true (λ e. absurd (true≢false (sym e ∙ used)))
      (λ v. rw (ne_eqb (lowest_buffer k d) (channel k d).buffers free) refl) on
      ∙ rw (all_closed k.running g.runs.running) refl

  -- A begin reading, where something was put.
  put_first : (c : Call) (b : Bool) → accepted (by_rows c (unless -13 b ∷ [])) ≡ b
  put_first c true = refl
  put_first c false = refl

  exact : (c : Call) → Going (now c) → Exact (now c) h
  exact c on =
      record {
        writes = λ d e l used none. of e (begun d (l, λ z. used (sym (told.size d) ∙ z)) none);
        pieces = λ d f bs e.
            let n = f + length bs in
            let x = on_channel (piece d f bs) in
            of e
            (λ o.
            needs x d is_write (when -7 (ltb (channel k d).size n) ∷ []) (leb n (size_of d h)) (none_there d is_write (leb n (size_of d h)) refl) (λ u. fits x d n) o
            ∙ ap (λ (b : Bool). b && leb n (size_of d h)) (by_open writing is_write kind_write d));
        puts = λ d e. of e (λ o. needs_only (on_channel (put d)) d is_write refl o ∙ by_open writing is_write kind_write d);
        readings = λ d e.
            let p = put_before (channel k d).latest in
            let x = on_channel (begin_reading d) in
            of e
            (λ o.
            needs x d is_closed (unless -13 p ∷ []) p (λ z. rw (not_there d z).1 (and-false (is_closed (own k d)))) (λ u. put_first x p) o
            ∙ (λ i. by_open closed is_closed kind_closed d i && by_put d i));
        showings = λ d e. of e (λ o. needs_only (on_channel (showing d)) d is_reading refl o ∙ by_open reading is_reading kind_reading d);
        screens = λ d text e. of e (λ o. needs_only (on_channel (screen d text)) d is_reading refl o ∙ by_open reading is_reading kind_reading d);
        closes = λ d e. of e (λ o. needs_only (on_channel (close d)) d is_reading refl o ∙ by_open reading is_reading kind_reading d);
      }
    where
      of : {x : Call} {b : Bool} → c ≡ x → (Going (now x) → accepted (now x) ≡ b) → accepted (now c) ≡ b
      of {x} {b} e f = subst (λ (y : Call). Going (now y) → accepted (now y) ≡ b) (sym e) f on

-- ---- every run

module _ (m : List ℕ) (size : OfItsSize m) where
  -- The memory keeps its size.
  run_sized : (cs : List Call) → OfItsSize (after step m cs).memory
  unfolding after
  run_sized [] = size
  run_sized (c ∷ cs) =
      let w = after step m cs in
      either_way w c (λ o. OfItsSize o.memory) (λ x. run_sized cs) (λ e. (wrote c w.kernel w.memory (run_good m cs) (allowed (handed w) c e).allowed).length_is ∙ run_sized cs)

  -- **exactly**: the calls on channels are accepted as the trace says, in every run that is lent a memory of its size.
  pub exactly : (cs : List Call) → Exactly (trace step m cs)
  unfolding trace step
  exactly [] = tt
  exactly (c ∷ cs) = (λ own. exact (after step m cs) (run_good m cs) (run_sized cs) (told_run m cs) c, exactly cs)
