-- One semaphore, session or channel is written: the queues stay in order, and nothing else that is seen changes. Assumes nothing.
use mathlib.Core.Path.{◌≡◌, ap, sym, subst, ◌∙◌}
use mathlib.Core.Bool.{false}
use mathlib.Core.List.{List, [], ◌∷◌}
use Prim.Native.Nat.{ℕ, ◌+◌, ◌*◌, ◌≤◌, ◌<◌}
use native.Mathlib.Omega.{arith}
use lib.ListN.{length, get_or, set}
use Rattle.kernel.specs.declared.Semaphore.{Semaphore}
use Rattle.kernel.specs.declared.Channel.{Channel}
use Rattle.kernel.specs.declared.Session.{Session}
use Rattle.kernel.specs.declared.Session.TheVariants.{Write}
use Rattle.kernel.specs.declared.Slot.{Slot}
use Rattle.kernel.specs.Sizes.{task_count, semaphore_count, channel_count, most_buffers}
use Rattle.kernel.specs.Kernel.{Kernel, slot, with_semaphore, with_channel, with_sessions}
use Rattle.kernel.specs.Layout.{word, clock_at, stop_at, running_at, total_at, semaphores_at, semaphore_at, tasks_at, sessions_at, session_at, channel_at}
use Rattle.kernel.specs.Codes.{stop_of, semaphore_of, semaphore_code, latest_of, latest_code, session_of, session_code}
use Rattle.kernel.specs.Seen.{semaphore_in, slot_in, channel_in, seen}
use Rattle.kernel.specs.Shows.{Kept, Shows}
use Rattle.words.specs.Writes.{puts, with_channel as channel_written}
use Rattle.kernel.proofs.Codes.{semaphore_read, latest_read, session_read}
use Rattle.words.proofs.Tables.{tabulate_set}
use Rattle.words.proofs.Puts.{puts_length, puts_kept, puts_at}
use Rattle.words.proofs.Seen.{Same, channel_same, semaphores_same, channels_same, sessions_same, rest_set}

-- The kernel with these tables.
abbrev with_entries : Kernel → List Semaphore → List Channel → List Slot → Kernel
with_entries k ss cs zs =
    record { clock = k.clock; stop = k.stop; running = k.running; total = k.total; tasks = k.tasks; queues = k.queues; semaphores = ss; channels = cs; sessions = zs }

-- These words are written from b + f on.
module _ (w : List ℕ) (b f : ℕ) (ns : List ℕ) where
  abbrev v : List ℕ
  v = puts w b f ns

  -- None of them between lo and hi.
  abbrev Clear : ℕ → ℕ → Type 0
  Clear lo hi = (j i : ℕ) → lo ≤ j → j < hi → i < length ns → j ≡ b + f + i → ⊥

  same : {lo hi : ℕ} → Clear lo hi → Same w v lo hi
  same clear j l h = puts_kept b w f ns j (λ i. clear j i l h)

  written : {j : ℕ} (i : ℕ) → i < length ns → b + f + length ns ≤ length w → j ≡ b + f + i → word v j ≡ get_or ns i 0
  written i l h e = rw e (puts_at b w f ns i l h)

  -- Behind the heads, and not in the records: so the tables alone change.
  entries_set : {ss : List Semaphore} {cs : List Channel} {zs : List Slot} → Clear 0 semaphores_at → Clear tasks_at sessions_at
      → (seen v).semaphores ≡ ss → (seen v).channels ≡ cs → (seen v).sessions ≡ zs → Kept w → Shows v (with_entries (seen w) ss cs zs)
  entries_set front records semaphores channels sessions k =
      rest_set w v (λ j a l. number j l) (same records) (puts_length b w f ns) (subst (λ (n : ℕ). n ≤ 2) (sym (number stop_at (omega arith))) k.formed.stop) k
      (λ i.
      record {
        clock = number clock_at (omega arith) i;
        stop = stop_of (number stop_at (omega arith) i);
        running = number running_at (omega arith) i;
        total = number total_at (omega arith) i;
        tasks = (seen w).tasks;
        queues = (seen w).queues;
        semaphores = semaphores i;
        channels = channels i;
        sessions = sessions i;
      })
    where
      number : (j : ℕ) → j < semaphores_at → word v j ≡ word w j
      number j l = same front j (omega arith) l

pub semaphore_set : {w : List ℕ} (s : ℕ) (a : Semaphore) → s < semaphore_count → (a.used ≡ false → a.count ≡ 0) → Kept w
    → Shows (set w (semaphore_at s) (semaphore_code a)) (with_semaphore (seen w) s a)
semaphore_set {w} s a l z k =
    let ns = semaphore_code a ∷ [] in
    let v = puts w semaphores_at s ns in
    entries_set w semaphores_at s ns (λ j i b c h e. omega arith) (λ j i b c h e. omega arith)
    (tabulate_set semaphore_count (semaphore_in w) (semaphore_in v) s
    (λ x lx ne. ap semaphore_of (puts_kept semaphores_at w s ns (semaphore_at x) (λ i h e. ne (omega arith))))
    ∙ ap (set (seen w).semaphores s) (ap semaphore_of (written w semaphores_at s ns 0 (omega arith) (omega (arith, k.formed.long)) (omega arith)) ∙ semaphore_read a z))
    (channels_same w v (same w semaphores_at s ns (λ j i b c h e. omega arith)))
    (sessions_same w v (same w semaphores_at s ns (λ j i b c h e. omega arith)))
    k

pub session_set : {w : List ℕ} (z : ℕ) (x : Session) → z < task_count * channel_count → ((b : ℕ) → x ≡ Write b → b < most_buffers) → Kept w
    → Shows (set w (session_at z) (session_code x)) (with_sessions (seen w) (set (seen w).sessions z (slot x)))
session_set {w} z x l h k =
    let ns = session_code x ∷ [] in
    let v = puts w sessions_at z ns in
    entries_set w sessions_at z ns (λ j i b c h e. omega arith) (λ j i b c h e. omega arith)
    (semaphores_same w v (same w sessions_at z ns (λ j i b c h e. omega arith)))
    (channels_same w v (same w sessions_at z ns (λ j i b c h e. omega arith)))
    (tabulate_set (task_count * channel_count) (slot_in w) (slot_in v) z
    (λ y ly ne. ap (λ (n : ℕ). slot (session_of n)) (puts_kept sessions_at w z ns (session_at y) (λ i g e. ne (omega arith))))
    ∙ ap (λ (y : Session). set (seen w).sessions z (slot y))
    (ap session_of (written w sessions_at z ns 0 (omega arith) (omega (arith, k.formed.long)) (omega arith)) ∙ session_read x h))
    k

pub channel_set : {w : List ℕ} (c : ℕ) (a : Channel) → c < channel_count → Kept w → Shows (channel_written w c a) (with_channel (seen w) c a)
channel_set {w} c a l k =
    let ns = a.size ∷ a.buffers ∷ latest_code a.latest ∷ [] in
    let v = puts w (channel_at c) 0 ns in
    let at : (f : ℕ) → f < 3 → word v (channel_at c + f) ≡ get_or ns f 0 = λ f lf. written w (channel_at c) 0 ns f lf (omega (arith, k.formed.long)) (omega arith) in
    entries_set w (channel_at c) 0 ns (λ j i b c h e. omega arith) (λ j i b c h e. omega arith)
    (semaphores_same w v (same w (channel_at c) 0 ns (λ j i b c h e. omega arith)))
    (tabulate_set channel_count (channel_in w) (channel_in v) c
    (λ x lx ne. channel_same w v x (λ f lf. puts_kept (channel_at c) w 0 ns (channel_at x + f) (λ i h e. ne (omega arith))))
    ∙ ap (set (seen w).channels c)
    (λ i. record { size = at 0 (omega arith) i; buffers = at 1 (omega arith) i; latest = (ap latest_of (at 2 (omega arith)) ∙ latest_read a.latest) i }))
    (sessions_same w v (same w (channel_at c) 0 ns (λ j i b c h e. omega arith)))
    k
