-- An example run, oldest event first: tasks, ticks and channels mixed, legal and illegal calls, writers and readers interrupted, a write cut
-- off by end, one by kill, and one still open. Assumes nothing.
use Rattle.std.specs.Prelude.{false, List, [], ◌∷◌, map, reverse, ℕ, pos, replicate}
use Rattle.std.proofs.Math.Option.{none, some}
use Rattle.kernel.specs.Answer.{success, refused, minus}
use Rattle.kernel.specs.Sizes.{memory_size}
use Rattle.kernel.specs.Calls.{tick, create_hard, create_nrt, activate, sleep, cycle, end, kill, clock, open_channel, begin_write, piece, put, begin_reading, showing, close, screen, Call, verb, question, on_channel}
use Rattle.laws_runs.specs.Trace.{Event}

-- A task's call is done with this number, is refused with this one below zero, or shows these bytes. Numbers are written as numerals, so
-- that a name with a wrong numeral fails here.
abbrev done : ℕ → Call → ℕ → Event
done t c n = record { who = t; call = c; answer = success (pos n); shown = none; aside = false }

abbrev refuses : ℕ → Call → ℕ → Event
refuses t c n = record { who = t; call = c; answer = refused (minus n); shown = none; aside = false }

abbrev shows : ℕ → Call → List ℕ → Event
shows t c bs = record { who = t; call = c; answer = success (pos 0); shown = some bs; aside = false }

abbrev shows_instead : ℕ → Call → ℕ → List ℕ → Event
shows_instead t c n bs = record { who = t; call = c; answer = refused (minus n); shown = some bs; aside = false }

abbrev pub events : List Event
events =
    done 0 (on_channel (open_channel 4 4)) 0
    ∷ done 0 (verb (create_nrt 2)) 1
    ∷ done 0 (verb (create_nrt 1)) 2
    ∷ done 0 (verb (create_hard 4 1)) 3
    ∷ refuses 0 (on_channel (begin_reading 0)) 13
    -- the main task puts a message, and task 1 opens a reading
    ∷ done 0 (on_channel (begin_write 0)) 0
    ∷ done 0 (on_channel (piece 0 0 (1 ∷ 2 ∷ 3 ∷ 4 ∷ []))) 0
    ∷ done 0 (on_channel (put 0)) 0
    ∷ done 0 (verb (activate 1)) 0
    ∷ done 1 (on_channel (begin_reading 0)) 0
    -- task 2 writes another, and task 3 interrupts it between two pieces
    ∷ done 1 (verb (activate 2)) 0
    ∷ done 2 (on_channel (begin_write 0)) 0
    ∷ done 2 (on_channel (piece 0 0 (5 ∷ 6 ∷ []))) 0
    ∷ done 2 (verb (activate 3)) 0
    ∷ done 3 (verb tick) 0
    ∷ shows_instead 3 (on_channel (showing 0)) 14 []
    ∷ done 3 (verb cycle) 0
    ∷ refuses 2 (on_channel (piece 0 3 (7 ∷ 8 ∷ []))) 7
    ∷ done 2 (on_channel (piece 0 2 (7 ∷ 8 ∷ []))) 0
    ∷ done 2 (on_channel (put 0)) 0
    -- it begins a further write and ends: that is never put
    ∷ done 2 (on_channel (begin_write 0)) 0
    ∷ done 2 (on_channel (piece 0 0 (9 ∷ 9 ∷ 9 ∷ 9 ∷ []))) 0
    ∷ done 2 (verb end) 0
    -- task 1 is still shown the message of its opening, and behind a new opening the last one put
    ∷ shows 1 (on_channel (showing 0)) (1 ∷ 2 ∷ 3 ∷ 4 ∷ [])
    ∷ done 1 (on_channel (close 0)) 0
    ∷ done 1 (on_channel (begin_reading 0)) 0
    ∷ shows 1 (on_channel (screen 0 (42 ∷ []))) (5 ∷ 6 ∷ 7 ∷ 8 ∷ [])
    ∷ done 1 (on_channel (close 0)) 0
    -- it writes, and is killed; the main task writes on, and does not put
    ∷ done 1 (on_channel (begin_write 0)) 0
    ∷ done 1 (on_channel (piece 0 1 (10 ∷ []))) 0
    ∷ done 1 (verb sleep) 0
    ∷ done 0 (verb (kill 1)) 0
    ∷ refuses 0 (verb (activate 1)) 6
    ∷ done 0 (verb (create_nrt 3)) 1
    ∷ done 0 (on_channel (begin_write 0)) 0
    ∷ done 0 (on_channel (piece 0 0 (11 ∷ []))) 0
    ∷ shows_instead 0 (on_channel (screen 0 (42 ∷ []))) 14 (42 ∷ [])
    ∷ done 0 (verb (activate 1)) 0
    ∷ done 1 (on_channel (begin_reading 0)) 0
    ∷ done 1 (verb tick) 0
    ∷ shows 1 (on_channel (showing 0)) (5 ∷ 6 ∷ 7 ∷ 8 ∷ [])
    ∷ done 1 (question clock) 2
    ∷ []

-- Its calls, newest first, and the memory that is lent: before the first call it may hold anything.
abbrev pub calls : List Call
calls = reverse (map (λ (e : Event). e.call) events)

abbrev pub memory : List ℕ
memory = replicate memory_size 7
