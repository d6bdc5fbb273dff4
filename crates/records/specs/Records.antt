-- A call as a record of the tape, and a record as a call. Assumes nothing.
use Rattle.std.specs.Prelude.{true, cond, List, [], ◌∷◌, ℕ, ◌-◌, ◌%◌, ltb, ℤ, get_or}
use Rattle.kernel.specs.Kernel.{Kernel}
use Rattle.kernel.specs.Calls.{Verb, tick, create_hard, create_nrt, activate, sleep, cycle, end, kill, new_semaphore, delete, wait, signal, verb}
use Rattle.kernel.specs.Step.{Outcome, step}
use Rattle.tape.specs.declared.Record.{Record}
use Rattle.records.specs.declared.Numbers.{Numbers}
use Rattle.tape.specs.Block.{four_bytes}

-- ---- verbs

-- The verbs in the order of document 01's list, with the arguments m and n.
abbrev pub verbs : ℕ → ℕ → List Verb
verbs m n = tick ∷ create_hard m n ∷ create_nrt m ∷ activate m ∷ sleep ∷ cycle ∷ end ∷ kill m ∷ new_semaphore m ∷ delete m ∷ wait m ∷ signal m ∷ []

-- Each verb's number, which is its place in that list, from 1, and its arguments; spare ones are 0.
abbrev pub with : ℕ → ℕ → ℕ → Numbers
with number m n = record { verb = number; first = m; second = n }

abbrev pub packed : Verb → Numbers
packed tick = with 1 0 0
packed (create_hard p c) = with 2 p c
packed (create_nrt p) = with 3 p 0
packed (activate n) = with 4 n 0
packed sleep = with 5 0 0
packed cycle = with 6 0 0
packed end = with 7 0 0
packed (kill n) = with 8 n 0
packed (new_semaphore n) = with 9 n 0
packed (delete s) = with 10 s 0
packed (wait s) = with 11 s 0
packed (signal s) = with 12 s 0

-- ---- records

-- A script number above 4,294,967,295 is recorded as that.
unfoldable pub cut : ℕ → ℕ
cut n = cond (ltb n four_bytes) n (four_bytes - 1)

-- The record of a verb with this answer, behind which this task runs and the clock is this.
abbrev pub recorded : Verb → ℤ → ℕ → ℕ → Record
recorded v answer running clock =
    record {
      verb = (packed v).verb;
      first = cut (packed v).first;
      second = cut (packed v).second;
      answer = answer;
      running = running % 256;
      clock = clock % 65536;
    }

-- What a verb comes to in a kernel: no call of a script looks at the message memory.
abbrev pub outcome : Verb → Kernel → Outcome
outcome v k = step (verb v) (record { sound = true; kernel = k; memory = [] })

-- What is recorded of a verb that is made in a kernel: its answer, and running task and clock behind it.
unfoldable pub record_of : Verb → Kernel → Record
record_of v k = let o = outcome v k in recorded v o.answer.number o.kernel.running o.kernel.clock

-- The verb that a record asks for.
abbrev pub asked : Record → Verb
asked r = get_or (verbs r.first r.second) (r.verb - 1) tick
