-- Each call, where nothing refuses it, keeps the channels and the memory what the trace tells. Assumes nothing.
use mathlib.Core.Path.{◌≡◌, refl, sym, ap, subst, ◌∙◌}
use mathlib.Core.Bool.{Bool, true, false, false≢true, cond, ◌&&◌}
use mathlib.Core.List.{List, [], ◌∷◌, ◌++◌}
use mathlib.Core.Option.{some}
use mathlib.Core.Logic.{inl, ⊎_elim}
use Prim.Native.Nat.{ℕ, ◌+◌, ◌≤◌, ◌<◌}
use native.Mathlib.Omega.{arith}
use lib.ListN.{length, replicate, length-replicate}
use lib.Dec.{eqb}
use borrow.Author.Tests.{eqb-true, eq-eqb}
use Rattle.std.specs.declared.option.Option.{Option}
use Rattle.std.specs.Prelude.{None, Some}
use Rattle.kernel.specs.declared.Session.{Session}
use Rattle.kernel.specs.declared.Session.TheVariants.{Closed, Write, Reading}
use Rattle.kernel.specs.Sizes.{task_count, channel_count, most_buffers}
use Rattle.kernel.specs.Kernel.{Kernel, channel, session}
use Rattle.kernel.specs.Channels as Channels
use Rattle.kernel.specs.Channels.{buffer_start, over, own, buffer, newest, is_write, put_before, free_buffer, lowest_buffer, lowest_channel}
use Rattle.kernel.specs.Calls.{OnChannel, open_channel, begin_write, piece, put, begin_reading, showing, close, screen, Call, verb, question, on_channel, channel_effect, effect}
use Rattle.kernel.specs.Step.{accept}
use Rattle.kernel.specs.Good.{Good, Unused, Opens}
use Rattle.kernel.proofs.Allowed.{ChannelAllowed, Allowed, OfItsSize}
use Rattle.kernel.proofs.Decided.{either, compared}
use Rattle.kernel.proofs.Lowest.{found}
use Rattle.kernel.proofs.Messages.{inside}
use Rattle.kernel.proofs.Over.{over_here, over_part}
use Rattle.laws_effects.proofs.Free.{free_latest, free_session}
use Rattle.laws_runs.specs.Trace.{Event, Deed, begins_write, writes, puts, begins_reading}
use Rattle.laws_runs.specs.Messages.{◌did◌, log, last_put, written}
use Rattle.laws_runs.specs.Open.{Open, ends, open_by}
use Rattle.laws_runs.specs.Run.{event}
use Rattle.laws_runs.proofs.Changed.{view, left, gets}
use Rattle.laws_runs.proofs.Buffers.{bytes_in, bytes_apart, sizes, latest_buffer, session_buffer, lowest_unused}
use Rattle.laws_runs.proofs.Told.{kind, message_in, Carries, Told, carries_other, carries_still, message_still, none_put}

-- A write is that of its buffer, and so is what was put.
is_write_of : (z : Session) → is_write z ≡ true → z ≡ Write (buffer z)
is_write_of Closed e = absurd (false≢true e)
is_write_of (Write b) e = refl
is_write_of (Reading b) e = absurd (false≢true e)

is_put_of : (x : Option ℕ) → put_before x ≡ true → x ≡ Some (newest x)
is_put_of None e = absurd (false≢true e)
is_put_of (Some b) e = refl

-- A session that a test chooses is of the kind that the test chooses.
kind_chosen : {o : Open} (b : Bool) (z y : Session) → o ≡ kind y → cond b (kind z) o ≡ kind (cond b z y)
kind_chosen true z y e = refl
kind_chosen false z y e = e

-- The event of a call that is not refused.
abbrev pub taken : Call → Kernel → List ℕ → Event
taken c k m = event c (record { kernel = k; memory = m }) (accept (effect c k m))

module _ {h : List Event} {k : Kernel} {m : List ℕ} (g : Good k) (told : Told h (view k) m) where
  -- The running task, and the message size of a channel.
  abbrev r : ℕ
  r = k.running

  runs : r < task_count
  runs = g.runs.running

  abbrev n : ℕ → ℕ
  n c = (channel k c).size

  -- Sessions may be closed.
  closed : (c t : ℕ) → t < task_count → (b : Bool) → Carries (n c) (log c h) (bytes_in m c (n c)) t (cond b Closed (session k c t))
  closed c t l true = tt
  closed c t l false = told.carries c t l

  -- A session that the running task gets is open.
  gets_open : (c : ℕ) (z : Session) (d t : ℕ) → t < task_count → cond (eqb d c && eqb t r) (kind z) (open_by t d h) ≡ kind ((gets k c z).session d t)
  gets_open c z d t l = kind_chosen (eqb d c && eqb t r) z (session k d t) (told.open_is d t l)

  -- The running task does x on channel c, and the memory becomes m'.
  module _ (c : ℕ) (x : Deed) (m' : List ℕ) where
    -- It has the session z there. The buffers of all other sessions stay.
    deed : (z : Session) → Carries (n c) (r did x ∷ log c h) (bytes_in m' c (n c)) r z
        → ((d t b : ℕ) → t < task_count → ((d ≡ c) × (t ≡ r) → ⊥) → Opens (session k d t) b → bytes_in m' d (n d) b ≡ bytes_in m d (n d) b)
        → (d t : ℕ) → t < task_count → Carries (n d) (cond (eqb d c) (r did x ∷ []) [] ++ log d h) (bytes_in m' d (n d)) t ((gets k c z).session d t)
    deed z own_holds kept d t l =
        compared (λ b. Carries (n d) (cond b (r did x ∷ []) [] ++ log d h) (bytes_in m' d (n d)) t (cond (b && eqb t r) z (session k d t))) d c
        (λ e.
        compared (λ b. Carries (n d) (r did x ∷ log d h) (bytes_in m' d (n d)) t (cond b z (session k d t))) t r (λ q. rw (e, q) own_holds)
        (λ ne. carries_other (n d) t r ne (log d h) x (bytes_in m' d (n d)) (session k d t) (still (λ p. ne p.1))))
        (λ ne. still (λ p. ne p.0))
      where
        still : ((d ≡ c) × (t ≡ r) → ⊥) → Carries (n d) (log d h) (bytes_in m' d (n d)) t (session k d t)
        still ne = carries_still (n d) (log d h) (bytes_in m d (n d)) (bytes_in m' d (n d)) t (session k d t) (λ b. kept d t b l ne) (told.carries d t l)

    -- It is no put, and the latest buffers stay.
    no_put : ((d : ℕ) → last_put (n d) (r did x ∷ log d h) ≡ last_put (n d) (log d h)) → ((d b : ℕ) → (channel k d).latest ≡ Some b → bytes_in m' d (n d) b ≡ bytes_in m d (n d) b)
        → (d : ℕ) → last_put (n d) (cond (eqb d c) (r did x ∷ []) [] ++ log d h) ≡ message_in (channel k d).latest (bytes_in m' d (n d))
    no_put unput kept d =
        either (λ l. last_put (n d) (l ++ log d h) ≡ last_put (n d) (log d h)) (eqb d c) (λ e. unput d) (λ e. refl)
        ∙ told.latest d
        ∙ message_still (channel k d).latest (kept d)

  -- The running task has its own session.
  own_has : (c d t : ℕ) → (gets k c (own k c)).session d t ≡ session k d t
  own_has c d t =
      compared (λ b. cond (b && eqb t r) (own k c) (session k d t) ≡ session k d t) d c
      (λ e. compared (λ b. cond b (own k c) (session k d t) ≡ session k d t) t r (λ q. rw (e, q) refl) (λ ne. refl)) (λ ne. refl)

  -- What it has written is in the buffer of its write.
  own_written : (c : ℕ) → is_write (own k c) ≡ true → written (n c) r (log c h) ≡ bytes_in m c (n c) (buffer (own k c))
  own_written c w = subst (Carries (n c) (log c h) (bytes_in m c (n c)) r) (is_write_of (own k c) w) (told.carries c r runs)

  -- Bytes go into buffer b of channel c, which is neither the latest nor another task's, and the running task then has the session z.
  module _ (size : OfItsSize m) (c b p : ℕ) (bs : List ℕ) (x : Deed) (z : Session) where
    abbrev m' : List ℕ
    m' = over m p bs

    fills : c < channel_count → b < (channel k c).buffers → ((channel k c).latest ≡ Some b → ⊥)
        → ((t : ℕ) → t < task_count → (t ≡ r → ⊥) → Opens (session k c t) b → ⊥)
        → buffer_start c b ≤ p → p + length bs ≤ buffer_start c b + n c
        → ((d : ℕ) → last_put (n d) (r did x ∷ log d h) ≡ last_put (n d) (log d h)) → Carries (n c) (r did x ∷ log c h) (bytes_in m' c (n c)) r z
        → ((d : ℕ) → last_put (n d) (cond (eqb d c) (r did x ∷ []) [] ++ log d h) ≡ message_in (channel k d).latest (bytes_in m' d (n d)))
        × ((d t : ℕ) → t < task_count → Carries (n d) (cond (eqb d c) (r did x ∷ []) [] ++ log d h) (bytes_in m' d (n d)) t ((gets k c z).session d t))
    fills lc lb not_latest not_another's from to unput own_holds = (
      no_put c x m' unput (λ d y e. apart d y (latest_buffer g d y e) (λ q. not_latest (rw (q.0, q.1) e))),
      deed c x m' z own_holds (λ d t y l ne o. apart d y (session_buffer g d t y l o) (λ q. not_another's t l (λ e. ne (sym q.0, e)) (rw (q.0, q.1) o))),
    )
      where
        apart : (d y : ℕ) → y < most_buffers → ((c ≡ d) × (b ≡ y) → ⊥) → bytes_in m' d (n d) y ≡ bytes_in m d (n d) y
        apart d y ly differ = bytes_apart m size c b p bs lc (omega (arith, (sizes g c).1)) from (omega (arith, (sizes g c).0)) d y (n d) ly (sizes g d).0 differ

  -- **Open**: the channel was unused, so nothing was put there and no session is open.
  opens : (s b : ℕ) → ChannelAllowed (open_channel s b) k m → Told (taken (on_channel (open_channel s b)) k m ∷ h) (left k (on_channel (open_channel s b))) m
  unfolding effect
  opens s b al =
      let c = lowest_channel k in
      let unused : (d : ℕ) → eqb c d ≡ true → Unused k d = λ d e. subst (Unused k) (eqb-true c d e) (lowest_unused g al.2).1 in
      record {
        size = λ d. ap (cond (eqb c d) s) (told.size d);
        latest = λ d.
            either (λ y. last_put y (log d h) ≡ message_in (channel k d).latest (bytes_in m d y)) (eqb c d)
            (λ e. rw (unused d e).latest (none_put (n d) s (log d h) (rw (unused d e).latest at (told.latest d)))) (λ e. told.latest d);
        carries = λ d t l. either (λ y. Carries y (log d h) (bytes_in m d y) t (session k d t)) (eqb c d) (λ e. rw ((unused d e).sessions t l) tt) (λ e. told.carries d t l);
        open_is = told.open_is;
      }

  channel_tells : (c : OnChannel) → ChannelAllowed c k m → Told (taken (on_channel c) k m ∷ h) (left k (on_channel c)) (channel_effect c k m).memory
  unfolding effect Channels.cleared Channels.written lowest_buffer
  channel_tells (open_channel s b) al = opens s b al
  channel_tells (begin_write c) al =
      let b = lowest_buffer k c in
      let free = found (channel k c).buffers (free_buffer k c) al.3 in
      let zeros : List ℕ = replicate (n c) 0 in
      let long : length zeros ≡ n c = length-replicate (n c) 0 in
      let room : buffer_start c b + n c ≤ length m = omega (arith, al.0, inside g c al.1 b free.0) in
      let cleared : bytes_in (over m (buffer_start c b) zeros) c (n c) b ≡ zeros =
      subst (λ (y : ℕ). bytes_in (over m (buffer_start c b) zeros) c y b ≡ zeros) long (over_here m (buffer_start c b) zeros (omega arith)) in
      let f = fills al.0 c b (buffer_start c b) zeros begins_write (Write b) al.1.0 free.0 (free_latest k c b free.1) (λ t l ne. free_session k c b free.1 t l) (omega arith) (omega arith)
      (λ d. refl) (rw (eq-eqb r r refl) (sym cleared)) in
      record { size = told.size; latest = f.0; carries = f.1; open_is = gets_open c (Write b) }
  channel_tells (piece c a bs) al =
      let b = buffer (own k c) in
      let writer = is_write_of (own k c) al.2 in
      let good = g.channels c al.1.0 in
      let lb = (good.sessions r b runs (inl writer)).named in
      let room : buffer_start c b + n c ≤ length m = omega (arith, al.0, inside g c al.1 b lb) in
      let f = fills al.0 c b (buffer_start c b + a) bs (writes a bs) (own k c) al.1.0 lb (good.not_latest r b runs writer)
      (λ t l ne. ⊎_elim (λ q. ne (good.one_writer t r b l runs q writer)) (λ q. good.not_read r t b runs l writer q)) (omega arith) (omega (arith, al.3)) (λ d. refl)
      (rw writer (rw (eq-eqb r r refl) (ap (λ (y : List ℕ). over y a bs) (own_written c al.2) ∙ sym (over_part m (buffer_start c b) (n c) a bs al.3 room)))) in
      record {
        size = told.size;
        latest = f.0;
        carries = λ d t l. rw (← own_has c d t) (f.1 d t l);
        open_is = told.open_is;
      }
  channel_tells (put c) al =
      record {
        size = told.size;
        latest = λ d.
            compared (λ b. last_put (n d) (cond b (r did puts ∷ []) [] ++ log d h) ≡ message_in (cond b (Some (buffer (own k c))) (channel k d).latest) (bytes_in m d (n d))) d c
            (λ e. rw e (ap some (own_written c al.2))) (λ ne. told.latest d);
        carries = deed c puts m Closed tt (λ d t b l ne o. refl);
        open_is = gets_open c Closed;
      }
  channel_tells (begin_reading c) al =
      let z = Reading (newest (channel k c).latest) in
      record {
        size = told.size;
        latest = no_put c begins_reading m (λ d. refl) (λ d b e. refl);
        carries = deed c begins_reading m z (rw (eq-eqb r r refl) (told.latest c ∙ ap (λ (y : Option ℕ). message_in y (bytes_in m c (n c))) (is_put_of (channel k c).latest al.3))) (λ d t b l ne o. refl);
        open_is = gets_open c z;
      }
  channel_tells (showing c) al = record { size = told.size; latest = told.latest; carries = told.carries; open_is = told.open_is }
  channel_tells (close c) al =
      record {
        size = told.size;
        latest = told.latest;
        carries = λ d t l. closed d t l (eqb d c && eqb t r);
        open_is = gets_open c Closed;
      }
  channel_tells (screen c text) al = record { size = told.size; latest = told.latest; carries = told.carries; open_is = told.open_is }

  -- **tells**: an accepted call keeps the channels and the memory what the trace tells.
  pub tells : (c : Call) → Allowed c k m → Told (taken c k m ∷ h) (left k c) (effect c k m).memory
  unfolding effect
  tells (verb v) al =
      record {
        size = told.size;
        latest = told.latest;
        carries = λ c t l. closed c t l (ends t r v);
        open_is = λ c t l. kind_chosen (ends t r v) Closed (session k c t) (told.open_is c t l);
      }
  tells (question q) al = record { size = told.size; latest = told.latest; carries = told.carries; open_is = told.open_is }
  tells (on_channel c) al = channel_tells c al
