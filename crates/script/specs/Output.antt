-- What a script prints: a function of the bytes that are read. Assumes nothing.
use Rattle.std.specs.Prelude.{true, List, [], ℕ}
use Rattle.std.proofs.Math.Option.{Option, none, some}
use Rattle.kernel.specs.Kernel.{Kernel}
use Rattle.kernel.specs.Calls.{Call}
use Rattle.kernel.specs.Step.{step}
use Rattle.kernel.specs.Fresh.{fresh}
use Rattle.language.specs.Meaning.{call_of, meaning}
use Rattle.text.specs.Text.{bytes, printed}
use Rattle.pieces.specs.Program.{lines, Turned, Program}

-- Each call prints answer, running task, clock; no call of a script looks at the message memory. Any other line prints one `?`.
abbrev pub by_call : Option Call → Kernel → Turned Kernel
by_call (some c) k =
    let o = step c (record { sound = true; kernel = k; memory = [] }) in
    record { state = o.kernel; text = printed o.answer.number o.kernel.running o.kernel.clock }
by_call none k = record { state = k; text = bytes "?\n" }

-- The turn of a line.
unfoldable pub turn : List ℕ → Kernel → Turned Kernel
turn line k = by_call (call_of (meaning line)) k

-- The first line printed is `dick 1`.
abbrev pub title : List ℕ
title = bytes "dick 1\n"

-- The script program: from the fresh kernel on, each line has its turn. Its output is all that is printed.
abbrev pub dick : Program
dick = record { State = Kernel; cut = lines; title = title; start = fresh; turn = turn; finish = λ k. [] }
