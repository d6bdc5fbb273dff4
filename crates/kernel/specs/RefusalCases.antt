-- The table of refusal numbers, computed row by row: each call that a row can refuse is made where that row is the first that
-- applies. Assumes nothing.
use Rattle.std.specs.Prelude.{◌≡◌, refl, Bool, true, false, List, [], ◌∷◌, ◌++◌, map, ℕ, replicate}
use Rattle.kernel.specs.declared.Stop.{Stop}
use Rattle.kernel.specs.declared.Stop.TheVariants.{Going, Overrun, Lifetime}
use Rattle.kernel.specs.Sizes.{fitting}
use Rattle.kernel.specs.Kernel.{share, lowest, with_stop}
use Rattle.kernel.specs.Moves.{move, dispatch, preempt, schedule}
use Rattle.kernel.specs.Tick as Tick
use Rattle.kernel.specs.Tasks as Tasks
use Rattle.kernel.specs.Semaphores as Semaphores
use Rattle.kernel.specs.Channels as Channels
use Rattle.kernel.specs.Calls.{tick, create_hard, create_nrt, activate, sleep, cycle, end, kill, new_semaphore, delete, wait, signal, clock, status, deadline, period, slack, OnChannel, open_channel, begin_write, piece, put, begin_reading, showing, close, screen, Call, verb, question, on_channel, effect}
use Rattle.kernel.specs.Step.{step}
use Rattle.kernel.specs.Fresh.{fresh}
use Rattle.kernel.specs.Bench.{Line, ◌gives◌runs◌, ◌refused-◌, Case, numbered, failed}

-- ---- calls and situations

-- The calls that are lent the memory, on channel c; all others, with some arguments; and every call.
abbrev lent_calls : ℕ → List Call
lent_calls c = map on_channel (begin_write c ∷ piece c 0 [] ∷ put c ∷ begin_reading c ∷ showing c ∷ close c ∷ screen c [] ∷ [])

abbrev unlent_calls : List Call
unlent_calls =
    map verb (tick ∷ create_hard 1 1 ∷ create_nrt 0 ∷ activate 1 ∷ sleep ∷ cycle ∷ end ∷ kill 1 ∷ [])
    ++ map verb (new_semaphore 0 ∷ delete 0 ∷ wait 0 ∷ signal 0 ∷ [])
    ++ map question (clock ∷ status 0 ∷ deadline 0 ∷ period 0 ∷ slack 0 ∷ [])
    ++ map on_channel (open_channel 1 2 ∷ [])

abbrev every_call : List Call
every_call = unlent_calls ++ lent_calls 0

infix 80 ◌all_refused-◌
-- Each of these calls is refused with this number below zero. A refusal leaves the kernel, so all are made in one situation.
abbrev ◌all_refused-◌ : List Call → ℕ → List Line
cs all_refused- n = map (λ (c : Call). c refused- n) cs

-- Task 0 makes these calls on channels, and each gives 0.
abbrev all_done : List OnChannel → List Line
all_done cs = map (λ (c : OnChannel). on_channel c gives 0 runs 0) cs

-- An NRT task comes to run, task 1.
abbrev nrt_runs : List Line
nrt_runs = verb (create_nrt 1) gives 1 runs 0 ∷ verb (activate 1) gives 0 runs 1 ∷ []

-- A script for row -n from the fresh kernel on, sound or not, going or stopped, with so many bytes of memory.
abbrev handed : ℕ → Bool → Stop → ℕ → List Line → Case
handed n sound stop bytes ls =
    record { name = n; start = record { sound = sound; kernel = with_stop fresh stop; memory = replicate bytes 7 }; script = ls }

abbrev row : ℕ → List Line → Case
row n ls = handed n true Going 16384 ls

-- ---- the rows, in the table's order

-- -12: memory not 16,384 bytes (all channel calls but open).
abbrev row_12_short : Case
row_12_short = handed 12 true Going 16383 (lent_calls 0 all_refused- 12)

abbrev row_12_long : Case
row_12_long = handed 12 true Going 16385 (lent_calls 0 all_refused- 12)

-- It answers before -11, and that before -1.
abbrev row_12_first : Case
row_12_first = handed 12 false Overrun 0 (lent_calls 0 all_refused- 12 ++ unlent_calls all_refused- 11)

-- -11: state not sound.
abbrev row_11 : Case
row_11 = handed 11 false Going 16384 (every_call all_refused- 11)

-- -1, -2: stopped, by overrun or lifetime.
abbrev row_1 : Case
row_1 = handed 1 true Overrun 16384 (every_call all_refused- 1)

abbrev row_2 : Case
row_2 = handed 2 true Lifetime 16384 (every_call all_refused- 2)

-- -8: task 0 asks sleep, cycle, end, wait, or is to be killed; NRT cycles; HARD waits; period of an NRT not FREE. It answers before -6.
abbrev row_8 : Case
row_8 =
    row 8
    (map verb (sleep ∷ cycle ∷ end ∷ wait 0 ∷ kill 0 ∷ []) all_refused- 8
    ++ map question (period 0 ∷ []) all_refused- 8
    ++ nrt_runs
    ++ map verb (cycle ∷ kill 0 ∷ []) all_refused- 8
    ++ map question (period 1 ∷ []) all_refused- 8
    ++ (verb (create_hard 4 1) gives 2 runs 1 ∷ verb (activate 2) gives 0 runs 2 ∷ verb (new_semaphore 9) gives 0 runs 2 ∷ [])
    ++ map verb (wait 0 ∷ wait 32 ∷ []) all_refused- 8
    ++ (question (period 2) gives 4 runs 2 ∷ verb cycle gives 0 runs 1 ∷ verb (wait 0) gives 0 runs 1 ∷ verb end gives 0 runs 0 ∷ []))

-- -6: number out of range, unused, or (but for status) FREE. It answers before -9. Numbers 32 and 4 are out of range, 31 and 3 FREE or unused.
abbrev row_6 : Case
row_6 =
    row 6
    (map verb (activate 32 ∷ kill 32 ∷ delete 32 ∷ signal 32 ∷ []) all_refused- 6
    ++ map question (status 32 ∷ deadline 32 ∷ period 32 ∷ slack 32 ∷ []) all_refused- 6
    ++ lent_calls 4 all_refused- 6
    ++ map verb (activate 31 ∷ kill 31 ∷ delete 31 ∷ signal 31 ∷ []) all_refused- 6
    ++ map question (deadline 31 ∷ period 31 ∷ slack 31 ∷ []) all_refused- 6
    ++ lent_calls 3 all_refused- 6
    ++ (question (status 31) gives 0 runs 0 ∷ nrt_runs)
    ++ map verb (wait 32 ∷ wait 31 ∷ []) all_refused- 6
    ++ (question (deadline 1) gives 2147483393 runs 1 ∷ question (slack 1) gives 2147483393 runs 1 ∷ []))

-- -14: a session is open on begin, or none of the needed kind. It answers before -7, -13 and, in the second write, -10.
abbrev row_14 : Case
row_14 =
    row 14
    (all_done (open_channel 4 2 ∷ [])
    ++ map on_channel (piece 0 5 [] ∷ put 0 ∷ showing 0 ∷ close 0 ∷ screen 0 [] ∷ []) all_refused- 14
    ++ all_done (begin_write 0 ∷ [])
    ++ map on_channel (begin_write 0 ∷ begin_reading 0 ∷ showing 0 ∷ close 0 ∷ screen 0 [] ∷ []) all_refused- 14
    ++ all_done (put 0 ∷ begin_write 0 ∷ [])
    ++ map on_channel (begin_write 0 ∷ []) all_refused- 14
    ++ all_done (put 0 ∷ begin_reading 0 ∷ [])
    ++ map on_channel (begin_write 0 ∷ begin_reading 0 ∷ piece 0 0 [] ∷ put 0 ∷ []) all_refused- 14
    ++ all_done (showing 0 ∷ screen 0 [] ∷ close 0 ∷ begin_write 0 ∷ []))

-- -7: an argument outside its sizes; a piece past the message.
abbrev row_7 : Case
row_7 =
    row 7
    (map verb (create_hard 0 0 ∷ create_hard 72001 1 ∷ create_hard 72000 0 ∷ create_hard 72000 72001 ∷ []) all_refused- 7
    ++ map verb (create_nrt 255 ∷ new_semaphore 65536 ∷ []) all_refused- 7
    ++ map on_channel (open_channel 0 2 ∷ open_channel 513 2 ∷ open_channel 1 1 ∷ open_channel 1 9 ∷ []) all_refused- 7
    ++ (verb (create_hard 72000 72000) gives 1 runs 0 ∷ verb (create_nrt 254) gives 2 runs 0 ∷ verb (new_semaphore 65535) gives 0 runs 0 ∷ [])
    ++ all_done (open_channel 512 8 ∷ begin_write 0 ∷ [])
    ++ map on_channel (piece 0 513 [] ∷ piece 0 512 (1 ∷ []) ∷ piece 0 511 (1 ∷ 2 ∷ []) ∷ []) all_refused- 7
    ++ all_done (piece 0 512 [] ∷ piece 0 511 (1 ∷ []) ∷ []))

-- -9: activate unless SLEEP; kill a ZOMBIE; delete with waiters; signal at 65,535. Activate is tried on a task that is READY,
-- EXE, WAIT, IDLE and ZOMBIE.
abbrev row_9 : Case
row_9 =
    row 9
    (nrt_runs
    ++ map verb (activate 0 ∷ activate 1 ∷ []) all_refused- 9
    ++ (verb (new_semaphore 0) gives 0 runs 1 ∷ verb (wait 0) gives 0 runs 0 ∷ [])
    ++ map verb (activate 1 ∷ delete 0 ∷ []) all_refused- 9
    ++ (verb (create_hard 4 1) gives 2 runs 0 ∷ verb (activate 2) gives 0 runs 2 ∷ verb cycle gives 0 runs 0 ∷ [])
    ++ map verb (activate 2 ∷ []) all_refused- 9
    ++ (verb (kill 2) gives 0 runs 0 ∷ [])
    ++ map verb (activate 2 ∷ kill 2 ∷ []) all_refused- 9
    ++ (verb (new_semaphore 65534) gives 1 runs 0 ∷ verb (signal 1) gives 0 runs 0 ∷ [])
    ++ map verb (signal 1 ∷ []) all_refused- 9
    ++ (verb (signal 0) gives 0 runs 1 ∷ verb (delete 0) gives 0 runs 1 ∷ []))

-- -15: a HARD task is activated while the clock is below its deadline. Task 1 is activated at 0, so has deadline 4, and sleeps at 1: it is refused at
-- 1 and at 3 and taken at 4. Task 2 was created at 0 and never activated: at 4 it is taken, with deadline 12. Task 1 is killed; the task that is
-- created then is taken at once, and refused when it has slept. An NRT task is not concerned.
abbrev row_15 : Case
row_15 =
    row 15
    ((verb (create_hard 4 1) gives 1 runs 0 ∷ verb (create_hard 8 1) gives 2 runs 0 ∷ verb (activate 1) gives 0 runs 1 ∷ [])
    ++ (verb tick gives 0 runs 1 ∷ verb sleep gives 0 runs 0 ∷ verb (activate 1) refused- 15 ∷ [])
    ++ (verb tick gives 0 runs 0 ∷ verb tick gives 0 runs 0 ∷ verb (activate 1) refused- 15 ∷ [])
    ++ (verb tick gives 0 runs 0 ∷ verb (activate 1) gives 0 runs 1 ∷ verb (activate 2) gives 0 runs 1 ∷ question (deadline 2) gives 12 runs 1 ∷ [])
    ++ (verb (kill 1) gives 0 runs 2 ∷ verb (create_hard 4 1) gives 3 runs 2 ∷ verb (activate 3) gives 0 runs 3 ∷ [])
    ++ (verb sleep gives 0 runs 2 ∷ verb (activate 3) refused- 15 ∷ verb sleep gives 0 runs 0 ∷ [])
    ++ (verb (create_nrt 1) gives 4 runs 0 ∷ verb (activate 4) gives 0 runs 4 ∷ verb sleep gives 0 runs 0 ∷ verb (activate 4) gives 0 runs 4 ∷ []))

-- -4: no FREE task. It answers before -3, and -7 before it.
abbrev row_4 : Case
row_4 =
    row 4
    (verb (create_hard 1 1) gives 1 runs 0 ∷ numbered (verb (create_nrt 1)) 2 30
    ++ map verb (create_hard 1 1 ∷ create_nrt 1 ∷ []) all_refused- 4
    ++ map verb (create_hard 1 2 ∷ create_nrt 255 ∷ []) all_refused- 7)

-- -5: no unused semaphore. -7 answers before it.
abbrev row_5 : Case
row_5 = row 5 (numbered (verb (new_semaphore 0)) 0 32 ++ (verb (new_semaphore 0) refused- 5 ∷ verb (new_semaphore 65536) refused- 7 ∷ []))

-- -3: share total would pass 1,000,000. Two shares of a half are taken.
abbrev row_3 : Case
row_3 = row 3 (numbered (verb (create_hard 2 1)) 1 2 ++ (verb (create_hard 72000 1) refused- 3 ∷ []))

-- -10: no unused channel. -7 answers before it.
abbrev row_10_channel : Case
row_10_channel =
    row 10
    (numbered (on_channel (open_channel 1 2)) 0 4
    ++ (on_channel (open_channel 1 2) refused- 10 ∷ on_channel (open_channel 0 2) refused- 7 ∷ []))

-- -10: no such buffer. Of two one is latest, and the other is being written, and then read.
abbrev row_10_buffer : Case
row_10_buffer =
    row 10
    (all_done (open_channel 1 2 ∷ begin_write 0 ∷ put 0 ∷ begin_write 0 ∷ [])
    ++ nrt_runs
    ++ (on_channel (begin_write 0) refused- 10 ∷ on_channel (begin_reading 0) gives 0 runs 1 ∷ verb sleep gives 0 runs 0 ∷ [])
    ++ all_done (put 0 ∷ [])
    ++ (on_channel (begin_write 0) refused- 10 ∷ []))

-- -13: reading before any put.
abbrev row_13 : Case
row_13 =
    row 13
    (all_done (open_channel 1 2 ∷ [])
    ++ (on_channel (begin_reading 0) refused- 13 ∷ [])
    ++ all_done (begin_write 0 ∷ put 0 ∷ begin_reading 0 ∷ []))

pub cases : List Case
cases =
    row_12_short
    ∷ row_12_long
    ∷ row_12_first
    ∷ row_11
    ∷ row_1
    ∷ row_2
    ∷ row_8
    ∷ row_6
    ∷ row_14
    ∷ row_7
    ∷ row_9
    ∷ row_15
    ∷ row_4
    ∷ row_5
    ∷ row_3
    ∷ row_10_channel
    ∷ row_10_buffer
    ∷ row_13
    ∷ []

-- Every case holds.
pub refusal_cases : failed cases ≡ []
unfolding cases failed fresh step effect fitting share lowest move dispatch preempt schedule Tick.free Tick.wake Tick.free_zombies Tick.wake_idle Tick.tick Tasks.lowest_free Tasks.create Tasks.activate Tasks.sleep Tasks.cycle Tasks.close_sessions Tasks.finish Tasks.end Tasks.kill Semaphores.lowest_semaphore Semaphores.new_semaphore Semaphores.delete Semaphores.wait Semaphores.signal Channels.some_session Channels.lowest_buffer Channels.lowest_channel Channels.open_channel Channels.begin_write Channels.cleared Channels.written Channels.put Channels.begin_reading Channels.close
refusal_cases = refl
