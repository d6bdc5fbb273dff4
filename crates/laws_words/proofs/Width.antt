-- The words of a good kernel are words of 32 bits. Assumes nothing.
use mathlib.Core.Path.{◌≡◌, refl, subst, sym, ◌∙◌}
use mathlib.Core.Logic.{inl, inr, dite}
use Prim.Native.Nat.{ℕ, zero, suc, ◌≤◌, ◌<◌}
use native.Mathlib.Omega.{arith}
use native.Mathlib.Decide.{ℕ_discrete, dec_lt}
use lib.IntN.{ℤ, pos}
use lib.ListN.{get_or}
use Rattle.laws_chain.specs.Chain.{end}
use Rattle.kernel.specs.declared.Class.{Class}
use Rattle.kernel.specs.declared.Class.TheVariants.{Nrt, Hard}
use Rattle.kernel.specs.declared.Status.{Status}
use Rattle.kernel.specs.declared.Status.TheVariants.{Free, Sleep, Exe, Ready, Idle, Zombie, Wait}
use Rattle.std.specs.declared.option.Option.{Option}
use Rattle.std.specs.Prelude.{None, Some}
use Rattle.kernel.specs.declared.Session.{Session}
use Rattle.kernel.specs.declared.Session.TheVariants.{Closed, Write, Reading}
use Rattle.kernel.specs.Sizes.{task_count, channel_count, main_priority, nrt_deadline, most_buffers}
use Rattle.kernel.specs.Status.{FREE, status_number}
use Rattle.kernel.specs.Kernel.{Kernel, task, queue, semaphore, channel, slot}
use Rattle.kernel.specs.Good.{Good, Fits, Timely, Names, Opens, standing}
use Rattle.kernel.proofs.Decided.{either}
use Rattle.kernel.proofs.Sizes.{sizes}
use Rattle.kernel.specs.Layout.{word, word_count}
use Rattle.kernel.specs.Codes.{link_code, period_code, amount_code, status_code, latest_code, session_code}
use Rattle.kernel.proofs.Codes.{stop_small}
use Rattle.laws_words.proofs.Ranges.{everywhere}
use Rattle.laws_words.proofs.Shown.{start_has, after_has, before_has, number, of_task, of_channel, words_of, number_at, head_word, semaphore_word, task_word, session_word, channel_word, few_buffers, few, tasks_of}

abbrev Word : ℕ → Type 0
Word n = n < 4294967296

abbrev Link : ℤ → Type 0
Link z = Word (link_code z)

task_fit : (x : ℕ) → x < task_count → Link (pos x)
task_fit x l = omega arith

-- ---- range by range

module _ (k : Kernel) (g : Good k) where
  number_fits : (j : ℕ) → Word (number k j)
  number_fits zero = omega (arith, g.clocked.clock)
  number_fits (suc zero) = omega (arith, stop_small k.stop)
  number_fits (suc (suc zero)) = omega (arith, g.runs.running)
  number_fits (suc (suc (suc j))) = omega (arith, g.shared.total_fits)

  -- A class that keeps the sizes, or that of the main task, and its deadline.
  module _ (x : ℕ) (l : x < task_count) where
    class_fits : (c : Class) → c ≡ (task k x).class → Word (period_code c) × Word (amount_code c) × Word (task k x).deadline
    class_fits c e =
        dite (ℕ_discrete x 0)
        (λ z.
        let m = e ∙ (g.tasks x l).main_or_sized.main_class z in
        rw m (omega arith, omega arith, nrt main_priority _ _ (omega arith) (rw m at timely)))
        (λ ne. of c (rw e ((g.tasks x l).main_or_sized.fits ne)) timely)
      where
        timely : Timely k.clock c (status_number (task k x).status) (task k x).deadline
        timely = rw e (g.tasks x l).timely

        nrt : (p n d : ℕ) → p ≤ main_priority → (n ≡ FREE → d ≡ 0) × ((n ≡ FREE → ⊥) → d ≡ nrt_deadline p) → Word d
        nrt p n d h t = dite (ℕ_discrete n FREE) (λ z. omega (arith, t.0 z)) (λ z. omega (arith, t.1 z))

        of : (c : Class) → Fits c → Timely k.clock c (status_number (task k x).status) (task k x).deadline → Word (period_code c) × Word (amount_code c) × Word (task k x).deadline
        of (Nrt p) h t = (omega arith, omega arith, nrt p _ _ (omega arith) t)
        of (Hard p c) h t =
            let s = sizes h in
            (omega (arith, s.short_period), omega (arith, s.short_period, s.cost_within), omega (arith, s.short_period, g.clocked.clock, t))

    status_fits : (st : Status) → Names k st → Word (status_code st)
    status_fits Free h = omega arith
    status_fits Sleep h = omega arith
    status_fits Exe h = omega arith
    status_fits Ready h = omega arith
    status_fits Idle h = omega arith
    status_fits Zombie h = omega arith
    status_fits (Wait s) h = omega (arith, h.0)

    task_fits : (f : ℕ) → Word (of_task k x f)
    task_fits zero = (class_fits _ refl).0
    task_fits (suc zero) = (class_fits _ refl).1
    task_fits (suc (suc zero)) = status_fits (task k x).status (g.tasks x l).waits
    task_fits (suc (suc (suc zero))) = (class_fits _ refl).2
    task_fits (suc (suc (suc (suc zero)))) = after_has Link (omega arith) task_fit (queue k (standing k x)) x (tasks_of k g (standing k x))
    task_fits (suc (suc (suc (suc (suc zero))))) = before_has Link (omega arith) task_fit end (queue k (standing k x)) x (omega arith) (tasks_of k g (standing k x))
    task_fits (suc (suc (suc (suc (suc (suc f)))))) = omega arith

  session_fits : (z : Session) → ((b : ℕ) → Opens z b → b < most_buffers) → Word (session_code z)
  session_fits Closed h = omega arith
  session_fits (Write b) h = omega (arith, h b (inl refl))
  session_fits (Reading b) h = omega (arith, h b (inr refl))

  channel_fits : (c f : ℕ) → c < channel_count → Word (of_channel k c f)
  channel_fits c zero l = dite (dec_lt 0 (channel k c).size) (λ u. omega (arith, ((g.channels c l).used u).size)) (λ u. omega arith)
  channel_fits c (suc zero) l = omega (arith, few_buffers k g c l)
  channel_fits c (suc (suc f)) l = go (channel k c).latest (g.channels c l).latest
    where
      go : (a : Option ℕ) → ((b : ℕ) → a ≡ Some b → b < (channel k c).buffers) → Word (latest_code a)
      go None h = omega arith
      go (Some b) h = omega (arith, h b refl, few_buffers k g c l)

  -- **fit**: each of a good kernel's words is below 4,294,967,296.
  pub fit : (j : ℕ) → j < word_count → Word (word (words_of k) j)
  fit =
      everywhere (λ (j : ℕ). Word (word (words_of k) j))
      (record {
        numbers = λ j l. subst Word (sym (number_at k j l)) (number_fits j);
        heads = λ q l. subst Word (sym (head_word k q l)) (start_has Link (omega arith) task_fit (queue k q) (tasks_of k g q));
        semaphores = λ s l. subst Word (sym (semaphore_word k s l)) (either Word (semaphore k s).used (λ e. omega (arith, (g.semaphores s l).fits)) (λ e. omega arith));
        tasks = λ x f l lf. subst Word (sym (task_word k x f l lf)) (task_fits x l f);
        sessions = λ z l. subst Word (sym (session_word k z l)) (session_fits (get_or k.sessions z (slot Closed)).session (λ b o. few k g z b l o));
        channels = λ c f l lf. subst Word (sym (channel_word k c f l lf)) (channel_fits c f l);
      })
