-- What a line means, computed: it is cut at its first space, and the verb before it says what must follow. Assumes nothing.
use Rattle.std.specs.Prelude.{Bool, true, false, cond, ◌&&◌, Option, Some, None, List, [], ◌∷◌, ℕ, suc, ◌+◌, ◌-◌, ◌*◌, eqb, leb, ltb, length, take, drop}
use Rattle.std.proofs.Math.Option as Math
use Prim.Native.String.{String}
use Rattle.kernel.specs.Channels.{same_bytes}
use Rattle.kernel.specs.Calls.{Call, verb}
use Rattle.text.specs.Text.{bytes}
use Rattle.verbs.specs.declared.Verb.{Verb}
use Rattle.verbs.specs.Verbs.{verb_of}

-- The call that a line asks for, if it does.
abbrev pub call_of : Option Verb → Math.Option Call
call_of None = Math.none
call_of (Some v) = Math.some (verb (verb_of v))

-- The number that digits spell behind others that spell n.
unfoldable pub number_from : ℕ → List ℕ → Option ℕ
number_from n [] = Some n
number_from n (b ∷ bs) = cond (leb 48 b && leb b 57) (number_from (n * 10 + (b - 48)) bs) None

unfoldable pub number_of : List ℕ → Option ℕ
number_of ds = cond (leb 1 (length ds) && leb (length ds) 10) (number_from 0 ds) None

-- What a word asks for, sought among the verbs listed.
unfoldable pub sought : List (String × Verb) → List ℕ → Option Verb
sought [] w = None
sought (v ∷ vs) w = cond (same_bytes w (bytes v.0)) (Some v.1) (sought vs w)

-- The verbs that stand alone.
abbrev pub alone : List ℕ → Option Verb
alone = sought (("tick", Verb.Tick) ∷ ("sleep", Verb.Sleep) ∷ ("cycle", Verb.Cycle) ∷ ("end", Verb.End) ∷ [])

-- The verbs that one number follows.
abbrev pub with_one : List ℕ → ℕ → Option Verb
with_one w n =
    sought
    (("nrt", Verb.Nrt n)
    ∷ ("activate", Verb.Activate (record { 0 = n }))
    ∷ ("kill", Verb.Kill (record { 0 = n }))
    ∷ ("newsem", Verb.Newsem n)
    ∷ ("delsem", Verb.Delsem (record { 0 = n }))
    ∷ ("wait", Verb.Wait (record { 0 = n }))
    ∷ ("signal", Verb.Signal (record { 0 = n }))
    ∷ [])
    w

abbrev pub with_number : List ℕ → Option ℕ → Option Verb
with_number w None = None
with_number w (Some n) = with_one w n

-- A HARD task's period and cost.
abbrev pub with_two : Option ℕ → Option ℕ → Option Verb
with_two None c = None
with_two (Some p) None = None
with_two (Some p) (Some c) = Some (Verb.Hard p c)

-- An index one byte later: 0 where that byte is the one that is sought.
unfoldable pub index_after : Bool → ℕ → ℕ
index_after true k = 0
index_after false k = suc k

-- Where the byte b stands first; the length where it stands nowhere.
unfoldable pub index_of : ℕ → List ℕ → ℕ
index_of b [] = 0
index_of b (x ∷ xs) = index_after (eqb x b) (index_of b xs)

-- Where the first space of a line stands; its length where there is none.
abbrev pub space : List ℕ → ℕ
space line = index_of 32 line

-- What stands before it, and behind it.
abbrev pub before : List ℕ → List ℕ
before line = take (space line) line

abbrev pub behind : List ℕ → List ℕ
behind line = drop (space line + 1) line

abbrev pub has_space : List ℕ → Bool
has_space line = ltb (space line) (length line)

-- What the two numbers behind the verb hard mean.
abbrev pub hard : List ℕ → Option Verb
hard rest = cond (has_space rest) (with_two (number_of (before rest)) (number_of (behind rest))) None

-- What the verb w means with this behind its space.
abbrev pub followed : List ℕ → List ℕ → Option Verb
followed w rest = cond (same_bytes w (bytes "hard")) (hard rest) (with_number w (number_of rest))

unfoldable pub meaning : List ℕ → Option Verb
meaning line = cond (has_space line) (followed (before line) (behind line)) (alone line)
