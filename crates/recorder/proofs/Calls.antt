-- The records of a script are those of calls that are made one behind the other, and have room in their blocks. Assumes nothing.
use mathlib.Core.List.{List, [], ◌∷◌, ◌++◌}
use Prim.Native.Nat.{ℕ}
use Rattle.std.proofs.Common.{Option, Some, None}
use Rattle.kernel.specs.Kernel.{Kernel}
use Rattle.kernel.specs.Calls.{Verb}
use Rattle.verbs.specs.declared.Verb as Code
use Rattle.verbs.specs.Verbs.{verb_of}
use Rattle.language.specs.Meaning.{meaning}
use Rattle.tape.specs.declared.Record.{Record}
use Rattle.tape.specs.Form.{AllRecordable}
use Rattle.records.specs.Records.{outcome, record_of}
use Rattle.records.proofs.Fits.{recordable}
use Rattle.recorder.specs.Tape.{by_line, records}

module _
    (P : List Record → Kernel → Type 0)
    (none : (k : Kernel) → P [] k)
    (more : (v : Verb) (k : Kernel) (rs : List Record) → P rs (outcome v k).kernel → P (record_of v k ∷ rs) k)
  where
    -- **of_calls**: what holds of no records, and of a call's record with those behind it where it holds of those, holds of a script's.
    pub of_calls : (ls : List (List ℕ)) (k : Kernel) → P (records ls k) k
    unfolding records
    of_calls [] k = none k
    of_calls (l ∷ ls) k = go (meaning l) (of_calls ls)
      where
        go : (m : Option Code.Verb) → ((j : Kernel) → P (records ls j) j) → P ((by_line m k).records ++ records ls (by_line m k).kernel) k
        go None others = others k
        go (Some v) others = let j = (outcome (verb_of v) k).kernel in more (verb_of v) k (records ls j) (others j)

-- **all_recordable**: every record of a script has room in its 16 bytes.
pub all_recordable : (ls : List (List ℕ)) (k : Kernel) → AllRecordable (records ls k)
unfolding AllRecordable
all_recordable = of_calls (λ rs k. AllRecordable rs) (λ k. tt) (λ v k rs others. (recordable v k, others))
