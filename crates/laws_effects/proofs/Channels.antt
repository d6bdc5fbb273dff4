-- Open, begin write, put, begin reading and close, where nothing refuses them, keep the kernel good. Assumes nothing.
use mathlib.Core.Path.{◌≡◌, refl, subst}
use mathlib.Core.Bool.{true, false≢true}
use mathlib.Core.List.{List}
use mathlib.Core.Logic.{inl}
use Prim.Native.Nat.{ℕ, ◌≤◌, ◌<◌}
use native.Mathlib.Omega.{arith}
use lib.Seq.{set-get_or}
use lib.Dec.{eqb}
use borrow.Author.Tests.{eqb-true}
use Rattle.kernel.specs.declared.Channel.{Channel}
use Rattle.std.specs.declared.option.Option.{Option}
use Rattle.std.specs.Prelude.{None, Some}
use Rattle.kernel.specs.declared.Session.{Session}
use Rattle.kernel.specs.declared.Session.TheVariants.{Closed, Write, Reading}
use Rattle.kernel.specs.declared.Slot.{Slot}
use Rattle.kernel.specs.Sizes.{task_count, channel_count, longest_message, fewest_buffers, most_buffers}
use Rattle.kernel.specs.Status.{FREE, ZOMBIE, status_number, stop_number}
use Rattle.kernel.specs.Kernel.{Kernel, task, channel, session, unused_channel, slot, slot_number, with_channel, with_sessions}
use Rattle.kernel.specs.Channels.{is_write, put_before, buffer, newest, own, with_own, free_buffer, lowest_buffer, lowest_channel, open_channel, begin_write, put, begin_reading, close}
use Rattle.kernel.specs.Good.{Good, GoodChannel, Used}
use Rattle.kernel.proofs.Allowed.{ChannelInUse}
use Rattle.kernel.proofs.Lowest.{found}
use Rattle.laws_effects.proofs.Steady.{earliest, steady, exe, good}
use Rattle.laws_effects.proofs.Sessions.{with_channels}
use Rattle.laws_effects.proofs.Free.{free_latest, free_session}
use Rattle.laws_effects.proofs.Buffers.{Suits, Apart, suits, Grant, granted}

-- Something was put, or nothing.
pub put_or_not : {x : Option ℕ} {b : ℕ} → x ≡ None → x ≡ Some b → ⊥
put_or_not p q = let clash : ◌≡◌ {A = ℕ} 0 1 = cc in omega arith

module _ {k : Kernel} (g : Good k) (going : stop_number k.stop ≡ 0) where
  runs : k.running < task_count
  runs = g.runs.running

  busy_own : (status_number (task k k.running).status ≡ FREE → ⊥) × (status_number (task k k.running).status ≡ ZOMBIE → ⊥)
  busy_own = let e = exe (steady g going) runs in (λ z. omega arith, λ z. omega arith)

  -- The running task gets the session z on channel c, whose record becomes h.
  grant : (c : ℕ) (h : Channel) (z : Session) → c < channel_count → Grant k c h k.running z → Good (with_channel (with_own k c z) c h)
  grant c h z l a = good (granted (steady g going) c h k.running z l runs a) runs (earliest g)

  pub open_good : (n b : ℕ) → (1 ≤ n) × (n ≤ longest_message) → (fewest_buffers ≤ b) × (b ≤ most_buffers) → (lowest_channel k ≡ channel_count → ⊥) → Good (open_channel n b k)
  unfolding open_channel lowest_channel
  open_good n b size buffers some =
      let c = lowest_channel k in
      let r = found channel_count (λ x. eqb (channel k x).size 0) some in
      let none = ((g.channels c r.0).unused (eqb-true (channel k c).size 0 r.1)).sessions in
      let h : Channel = record { size = n; buffers = b; latest = None } in
      subst (λ (zs : List Slot). Good (with_channel (with_sessions k zs) c h)) (set-get_or k.sessions (slot_number c k.running) (slot Closed))
      (grant c h (own k c) r.0
      (record {
        size = size;
        buffers = buffers;
        latest = λ x e. absurd (put_or_not refl e);
        in_use = busy_own;
        own = rw (none k.running runs) tt;
        others = λ u l ne. rw (none u l) tt;
        apart = λ u l ne. rw (none k.running runs) tt;
      }))

  -- A channel in use keeps its sizes.
  module _ (c : ℕ) (used : ChannelInUse k c) where
    abbrev with_latest : Option ℕ → Channel
    with_latest x = record { size = (channel k c).size; buffers = (channel k c).buffers; latest = x }

    a : GoodChannel k c
    a = g.channels c used.0

    sizes : Used k c
    sizes = a.used (omega (arith, used.1))

    -- The latest becomes x.
    renewed : (x : Option ℕ) (z : Session) → ((b : ℕ) → x ≡ Some b → b < (channel k c).buffers) → Suits (with_latest x) z
        → ((u : ℕ) → u < task_count → (u ≡ k.running → ⊥) → Suits (with_latest x) (session k c u))
        → ((u : ℕ) → u < task_count → (u ≡ k.running → ⊥) → Apart z (session k c u)) → Good (with_channel (with_own k c z) c (with_latest x))
    renewed x z latest own others apart =
        grant c (with_latest x) z used.0
        (record {
          size = (omega (arith, used.1), sizes.size);
          buffers = (sizes.fewest, sizes.most);
          latest = latest;
          in_use = busy_own;
          own = own;
          others = others;
          apart = apart;
        })

    -- The record stays as it is.
    kept : (z : Session) → Suits (channel k c) z → ((u : ℕ) → u < task_count → (u ≡ k.running → ⊥) → Apart z (session k c u)) → Good (with_own k c z)
    kept z own apart =
        subst (λ (hs : List Channel). Good (with_channels k hs (with_own k c z).sessions)) (set-get_or k.channels c unused_channel)
        (renewed (channel k c).latest z a.latest own (λ u l ne. suits a u l) apart)

    pub begin_write_good : (lowest_buffer k c ≡ (channel k c).buffers → ⊥) → Good (begin_write c k)
    unfolding begin_write lowest_buffer
    begin_write_good some =
        let b = lowest_buffer k c in
        let r = found (channel k c).buffers (free_buffer k c) some in
        kept (Write b) (r.0, free_latest k c b r.1) (λ u l ne. free_session k c b r.1 u l)

    -- The latest buffer has no writer.
    pub begin_reading_good : put_before (channel k c).latest ≡ true → Good (begin_reading c k)
    unfolding begin_reading
    begin_reading_good = go (channel k c).latest refl
      where
        go : (x : Option ℕ) → (channel k c).latest ≡ x → put_before x ≡ true → Good (with_own k c (Reading (newest x)))
        go None e p = absurd (false≢true p)
        go (Some b) e p = kept (Reading b) (a.latest b e, λ n. put_or_not n e) (λ u l ne w. a.not_latest u b l w e)

    pub close_good : Good (close c k)
    unfolding close
    close_good = kept Closed tt (λ u l ne. tt)

    -- The writer's buffer has no other writer, so what becomes the latest is written by none.
    pub put_good : is_write (own k c) ≡ true → Good (put c k)
    unfolding put
    put_good = go (own k c) refl
      where
        still : {b : ℕ} → own k c ≡ Write b → (u : ℕ) → u < task_count → (u ≡ k.running → ⊥) → (y : Session) → session k c u ≡ y → Suits (channel k c) y → Suits (with_latest (Some b)) y
        still e u l ne Closed p s = tt
        still e u l ne (Write x) p s = (s.0, λ z. ne (a.one_writer u k.running x l runs p (cc)))
        still e u l ne (Reading x) p s = (s.0, λ z. put_or_not z refl)

        go : (z : Session) → own k c ≡ z → is_write z ≡ true → Good (with_channel (with_own k c Closed) c (with_latest (Some (buffer z))))
        go Closed e w = absurd (false≢true w)
        go (Reading b) e w = absurd (false≢true w)
        go (Write b) e w =
            renewed (Some b) Closed (λ x p. let y : b ≡ x = cc in omega (arith, (a.sessions k.running b runs (inl e)).named)) tt
            (λ u l ne. still e u l ne (session k c u) refl (suits a u l)) (λ u l ne. tt)
