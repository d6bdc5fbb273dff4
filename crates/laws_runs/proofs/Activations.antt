-- A HARD task is activated once a period at most, and one never activated is never too soon, in every run of the model; what that says of the functions is
-- promised in `laws_demands`. Assumes nothing.
use mathlib.Core.Path.{◌≡◌, refl, ap, sym, ◌∙◌}
use mathlib.Core.Bool.{Bool, true, false, true≢false, false≢true, and-eq-true_iff}
use mathlib.Core.Logic.{◌⊎◌, inl, inr}
use mathlib.Core.List.{List, [], ◌∷◌, ◌++◌}
use mathlib.Core.Option.{Option, none, some}
use Prim.Native.Nat.{ℕ, ◌+◌, ◌≤◌}
use native.Mathlib.Omega.{arith}
use lib.Dec.{ltb, eqb}
use lib.IntN.{ℤ}
use borrow.Author.Tests.{ltb-true, eqb-true}
use Rattle.kernel.specs.declared.Class.{Class}
use Rattle.kernel.specs.declared.Class.TheVariants.{Nrt, Hard}
use Rattle.kernel.specs.Answer.{Said, refused, same_number}
use Rattle.kernel.specs.Status.{FREE, SLEEP, status_number, stop_number}
use Rattle.kernel.specs.Kernel.{Bare, Kernel, task, hard, period_of, is}
use Rattle.kernel.specs.Moves.{move}
use Rattle.kernel.specs.Tasks as Tasks
use Rattle.kernel.specs.Tasks.{first_deadline, release, ended}
use Rattle.kernel.specs.Calls.{activate, Call, verb, Effect, effect}
use Rattle.kernel.specs.Refusals.{Handed, when, unless, -1, -2, -6, -9, -15, first, rows, no_task_in_use, too_soon}
use Rattle.kernel.specs.Step.{by_table, step}
use Rattle.kernel.specs.Good.{Good}
use Rattle.kernel.proofs.Allowed.{VerbAllowed, allowed}
use Rattle.kernel.proofs.Moves.{moved_task}
use Rattle.kernel.proofs.Rows.{not_none, number_or}
use Rattle.kernel.proofs.Said.{done_refused}
use Rattle.laws_promises.proofs.Earliest.{movable, queues_kept}
use Rattle.laws_promises.proofs.Joining.{good_orderly, still_orderly}
use Rattle.laws_promises.proofs.Lasting.{Active, activated, Lasting, schedules, call_lasts}
use Rattle.laws_runs.specs.Run.{World, handed, after, kernel_after}
use Rattle.laws_runs.proofs.Whole.{either_way, run_good}

-- ---- what lasts

-- A HARD task in use, with no deadline before d.
record Engaged (d : ℕ) (a : Bare) : Type 0 where
  is_hard : hard a.class ≡ true
  used : status_number a.status ≡ FREE → ⊥
  ahead : d ≤ a.deadline

-- Such a task, up to the time d.
abbrev UpTo : ℕ → ℕ → Bare → Type 0
UpTo d t a = (d ≤ t) ⊎ Engaged d a

module _ (d : ℕ) where
  -- Where d has come, it has come; else, what becomes of a task that is engaged.
  up_to : {t : ℕ} {a b : Bare} → (Engaged d a → UpTo d t b) → UpTo d t a → UpTo d t b
  up_to f (inl l) = inl l
  up_to f (inr e) = f e

  later : {t : ℕ} {a : Bare} → UpTo d t a → UpTo d (t + 1) a
  later (inl l) = inl (omega arith)
  later (inr e) = inr e

  ends : (a : Bare) (c : Class) → hard c ≡ true → Engaged d a → Engaged d (ended a c)
  ends a (Hard p c) h e = record { is_hard = e.is_hard; used = omega arith; ahead = e.ahead }
  ends a (Nrt p) h e = absurd (false≢true h)

  engaged_lasts : Lasting (Unit {0}) (UpTo d)
  engaged_lasts =
      record {
        later = later;
        restated = λ x st used. up_to (λ e. inr (record { is_hard = e.is_hard; used = used; ahead = e.ahead }));
        renewed = λ x due. up_to (λ e. inr (record { is_hard = e.is_hard; used = omega arith; ahead = omega (arith, e.ahead) }));
        activates = λ x asleep due. up_to (λ e. inl (omega (arith, e.ahead, due e.is_hard)));
        created = λ free c. up_to (λ e. absurd (e.used free));
        ends = λ {t} {a} used. up_to (λ e. inr (ends a a.class e.is_hard e));
        freed = λ zombie due. up_to (λ e. inl (omega (arith, e.ahead)));
      }

-- Not active; and where it sleeps and is HARD, its deadline is not ahead.
record Quiet (t : ℕ) (a : Bare) : Type 0 where
  inactive : Active a → ⊥
  due : status_number a.status ≡ SLEEP → hard a.class ≡ true → a.deadline ≤ t

first_quiet : (t : ℕ) (c : Class) → hard c ≡ true → first_deadline c t ≤ t
first_quiet t (Hard p c) h = omega arith
first_quiet t (Nrt p) h = absurd (false≢true h)

ended_quiet : (t : ℕ) (a : Bare) (c : Class) → Quiet t (ended a c)
ended_quiet t a (Hard p c) = record { inactive = λ x. x.alive refl; due = λ e. absurd (omega arith) }
ended_quiet t a (Nrt p) = record { inactive = λ x. x.used refl; due = λ e. absurd (omega arith) }

quiet_lasts : Lasting ⊥ Quiet
quiet_lasts =
    record {
      later = λ q. record { inactive = q.inactive; due = λ s h. omega (arith, q.due s h) };
      restated = λ x st used q. absurd (q.inactive x);
      renewed = λ x due q. absurd (q.inactive x);
      activates = λ x. absurd x;
      created = λ {t} free c q. record { inactive = λ x. x.awake refl; due = λ s. first_quiet t c };
      ends = λ {t} {a} used q. ended_quiet t a a.class;
      freed = λ zombie due q. record { inactive = λ x. x.used refl; due = λ e. absurd (omega arith) };
    }

-- ---- one call

other_number : {x y : ℤ} → same_number y x ≡ false → same_number y y ≡ true → some x ≡ some y → ⊥
other_number {x} {y} differ same e = true≢false (sym same ∙ ap (λ (o : Option ℤ). same_number y (number_or y o)) (sym e) ∙ differ)

-- Where the last of activate's rows answers, the one before it does not apply.
last_answers : (v w x s z : Bool) → first (when -1 v ∷ when -2 w ∷ when -6 x ∷ unless -9 s ∷ when -15 z ∷ []) ≡ some -15 → (s ≡ true) × (z ≡ true)
last_answers true w x s z e = absurd (other_number refl refl e)
last_answers false true x s z e = absurd (other_number refl refl e)
last_answers false false true s z e = absurd (other_number refl refl e)
last_answers false false false false z e = absurd (other_number refl refl e)
last_answers false false false true true e = (refl, refl)
last_answers false false false true false e = absurd (not_none (sym e))

released_ahead : (c : Class) (t d : ℕ) → hard c ≡ true → t + period_of c ≤ release c t d
released_ahead (Hard p c) t d h = omega arith
released_ahead (Nrt p) t d h = absurd (false≢true h)

-- A HARD task that is activated is engaged for a period.
activation_engages : {k : Kernel} → Good k → (n : ℕ) → VerbAllowed (activate n) k → hard (task k n).class ≡ true
    → UpTo (k.clock + period_of (task k n).class) (Tasks.activate n k).clock (task (Tasks.activate n k) n)
unfolding move Tasks.activate
activation_engages {k} g n a h =
    let b = activated k.clock (task k n) in
    let asleep = a.1 in
    schedules (engaged_lasts (k.clock + period_of (task k n).class)) n
    (still_orderly (good_orderly g) n b a.0 (omega arith))
    (rw (moved_task (movable (queues_kept g) n a.0) b)
    (inr (record { is_hard = h; used = omega arith; ahead = released_ahead (task k n).class k.clock (task k n).deadline h })))

-- ---- a run

-- The row that answered, by the answer.
answered : (f : Effect) (h : Handed) {x : ℤ} (o : Option ℤ) → (by_table o f h).answer ≡ refused x → o ≡ some x
answered f h none e = absurd (done_refused e)
answered f h (some y) e = ap (λ (z : Said). some z.number) e

module _ (m : List ℕ) where
  -- The call c, made after the calls cs, takes effect.
  abbrev pub Takes : Call → List Call → Type 0
  Takes c cs = (step c (handed (after step m cs))).answer.refusal ≡ false

  -- None of the calls ds, made after the calls cs, activated task n.
  abbrev pub Unactivated : ℕ → List Call → List Call → Type 0
  Unactivated n cs [] = Unit {0}
  Unactivated n cs (d ∷ ds) = (d ≡ verb (activate n) → Takes d (ds ++ cs) → ⊥) × Unactivated n cs ds

  -- What lasts of task n's record, over one call.
  next : {A : Type 0} {P : ℕ → Bare → Type 0} → Lasting A P → (n : ℕ) (c : Call) (cs : List Call) → (c ≡ verb (activate n) → Takes c cs → A)
      → P (kernel_after step m cs).clock (task (kernel_after step m cs) n)
      → P (kernel_after step m (c ∷ cs)).clock (task (kernel_after step m (c ∷ cs)) n)
  unfolding after step
  next {P = P} lasts n c cs may h =
      let w = after step m cs in
      either_way w c (λ o. P o.kernel.clock (task o.kernel n)) (λ x. h)
      (λ none.
      let a = allowed (handed w) c none in
      call_lasts lasts n (run_good m cs) c w.memory a.going a.allowed (λ e. may e (rw none refl)) h)

  module _ (n : ℕ) (cs : List Call) where
    engaged : (d : ℕ) (ds : List Call) → UpTo d (kernel_after step m cs).clock (task (kernel_after step m cs) n)
        → UpTo d (kernel_after step m (ds ++ cs)).clock (task (kernel_after step m (ds ++ cs)) n)
    engaged d [] h = h
    engaged d (c ∷ ds) h = next (engaged_lasts d) n c (ds ++ cs) (λ e t. tt) (engaged d ds h)

    quiet : (ds : List Call) → Unactivated n cs ds → status_number (task (kernel_after step m cs) n).status ≡ FREE
        → Quiet (kernel_after step m (ds ++ cs)).clock (task (kernel_after step m (ds ++ cs)) n)
    quiet [] u free = record { inactive = λ x. x.used free; due = λ s. absurd (omega arith) }
    quiet (c ∷ ds) u free = next quiet_lasts n c (ds ++ cs) u.0 (quiet ds u.1 free)

  module _ (n : ℕ) (cs : List Call) (t : Takes (verb (activate n)) cs) where
    abbrev w : World
    w = after step m cs

    -- What holds of an activation that is legal holds of one that takes effect.
    legal : (P : Kernel → Type 0) → (VerbAllowed (activate n) w.kernel → P (Tasks.activate n w.kernel)) → P (step (verb (activate n)) (handed w)).kernel
    unfolding effect
    legal P f =
        either_way w (verb (activate n)) (λ o. o.answer.refusal ≡ false → P o.kernel) (λ x e. absurd (true≢false e))
        (λ none e. f (allowed (handed w) (verb (activate n)) none).allowed) t

    -- It was told all that its rows test.
    told : VerbAllowed (activate n) w.kernel
    told = legal (λ k. VerbAllowed (activate n) w.kernel) (λ a. a)

    -- From then on the task is engaged for a period.
    begun : hard (task w.kernel n).class ≡ true
        → UpTo (w.kernel.clock + period_of (task w.kernel n).class) (kernel_after step m (verb (activate n) ∷ cs)).clock (task (kernel_after step m (verb (activate n) ∷ cs)) n)
    unfolding after
    begun h = legal (λ k. UpTo (w.kernel.clock + period_of (task w.kernel n).class) k.clock (task k n)) (λ a. activation_engages (run_good m cs) n a h)

  -- **once_a_period**: a HARD task is activated at most once in its period.
  pub once_a_period : (n : ℕ) (cs ds : List Call) → hard (task (kernel_after step m cs) n).class ≡ true → Takes (verb (activate n)) cs
      → Takes (verb (activate n)) (ds ++ verb (activate n) ∷ cs)
      → (kernel_after step m cs).clock + period_of (task (kernel_after step m cs) n).class ≤ (kernel_after step m (ds ++ verb (activate n) ∷ cs)).clock
  once_a_period n cs ds h one two = by (engaged n (verb (activate n) ∷ cs) _ ds (begun n cs one h))
    where
      by : {d : ℕ} → UpTo d (kernel_after step m (ds ++ verb (activate n) ∷ cs)).clock (task (kernel_after step m (ds ++ verb (activate n) ∷ cs)) n)
          → d ≤ (kernel_after step m (ds ++ verb (activate n) ∷ cs)).clock
      by (inl l) = l
      by (inr e) = omega (arith, e.ahead, (told n (ds ++ verb (activate n) ∷ cs) two).2 e.is_hard)

  -- **never_activated_passes**: a task that was never activated is not refused with -15.
  pub never_activated_passes : (n : ℕ) (cs ds : List Call) → status_number (task (kernel_after step m cs) n).status ≡ FREE → Unactivated n cs ds
      → (step (verb (activate n)) (handed (after step m (ds ++ cs)))).answer ≡ refused -15 → ⊥
  unfolding step
  never_activated_passes n cs ds free u e =
      let k = kernel_after step m (ds ++ cs) in
      let s =
      last_answers (eqb (stop_number k.stop) 1) (eqb (stop_number k.stop) 2) (no_task_in_use k n) (is SLEEP (task k n)) (too_soon k n)
      (answered _ _ (first (rows (verb (activate n)) (handed (after step m (ds ++ cs))))) e) in
      let soon = (and-eq-true_iff (hard (task k n).class) (ltb k.clock (task k n).deadline)).0 s.1 in
      omega (
        arith,
        ltb-true k.clock (task k n).deadline soon.1,
        (quiet n cs ds u free).due (eqb-true (status_number (task k n).status) SLEEP s.0) soon.0,
      )
