-- The promise of a public call. Assumes nothing.
use Rattle.std.specs.Prelude.{◌≡◌, Bool, true, false, ◌↔◌, List, ℕ}
use Rattle.std.proofs.Math.Option.{Option, none, some}
use Rattle.kernel.specs.declared.TaskNo.{TaskNo}
use Rattle.kernel.specs.declared.State.{State}
use Rattle.kernel.specs.declared.Reply.{Reply}
use Rattle.kernel.specs.Answer.{Answer, said}
use Rattle.kernel.specs.Kernel.{Kernel}
use Rattle.kernel.specs.Calls.{Call, Shown, nothing, part, standby}
use Rattle.kernel.specs.Refusals.{Handed}
use Rattle.kernel.specs.Step.{Outcome, step}
use Rattle.kernel.specs.Layout.{word, running_at}
use Rattle.kernel.specs.Seen.{seen}
use Rattle.kernel.specs.Sound.{Sound}
use Rattle.kernel.specs.Shows.{Shows}
use Rattle.kernel.specs.Slices.{Slice, part_of}

-- What the table looks at, of words that are sound or not and a message memory.
abbrev pub handed : Bool → List ℕ → List ℕ → Handed
handed b w m = record { sound = b; kernel = seen w; memory = m }

-- The words that are left, where the kernel is then k. Refused, they are the words themselves, links and all, sound or not.
-- Else they are words that show k, and there are no others.
abbrev pub Left : Bool → Kernel → List ℕ → List ℕ → Type 0
Left true k w v = v ≡ w
Left false k w v = Shows v k

-- Who runs, by the words.
abbrev pub runs : List ℕ → TaskNo
runs w = record { 0 = word w running_at }

-- What a call is lent: the message memory and, by the screen call, a stand-by text.
pub record Loan : Type 0 where
  pub memory : Slice
  pub standby : Slice

-- What a call gives back: the reply, the bytes of the memory as they are then, and the slice that it hands back, if it does.
pub record Given : Type 0 where
  pub reply : Reply
  pub memory : List ℕ
  pub shown : Option Slice

-- What is handed back is no copy: it is a part of the lent memory, or the stand-by text itself.
abbrev pub handed_back : Shown → Loan → Option Slice
handed_back nothing l = none
handed_back (part a n) l = some (part_of l.memory a n)
handed_back standby l = some l.standby

-- What a call that found the words w gives back where o is its outcome.
pub record Gives (o : Outcome) (w : List ℕ) (l : Loan) (g : Given) : Type 0 where
  pub answer : said g.reply.answer ≡ o.answer
  pub state : Left o.answer.refusal o.kernel w g.reply.state.words
  pub running : g.reply.running ≡ runs g.reply.state.words
  pub memory : g.memory ≡ o.memory
  pub shown : g.shown ≡ handed_back o.shown l

-- The call c, handed any state s and lent any l, gives g: it steps as the table and the call's effect say, and the table is told truly
-- whether s is sound.
pub record Answered (c : Call) (s : State) (l : Loan) (g : Given) : Type 0 where
  pub sound : Bool
  pub decided : (sound ≡ true) ↔ Sound s.words
  pub gives : Gives (step c (handed sound s.words l.memory.bytes)) s.words l g

-- ---- the promises of the calls, by what they are lent

-- Nothing: whatever the memory is, it stays so.
abbrev pub unlent : Reply → Loan → Given
unlent r l = record { reply = r; memory = l.memory.bytes; shown = none }

abbrev pub Unlent : Call → State → Reply → Type 0
Unlent c s r = (l : Loan) → Answered c s l (unlent r l)

-- The memory, which then holds the bytes n.
abbrev pub lent : Slice → Slice → Loan
lent memory text = record { memory = memory; standby = text }

abbrev pub given : Reply → List ℕ → Option Slice → Given
given r n x = record { reply = r; memory = n; shown = x }

abbrev pub Lent : Call → State → Slice → Reply → List ℕ → Type 0
Lent c s memory r n = (text : Slice) → Answered c s (lent memory text) (given r n none)

-- The reply of these words and this answer.
abbrev pub reply : List ℕ → Answer → Reply
reply v a = record { state = record { words = v }; answer = a; running = runs v }

-- The memory and a stand-by text. A showing leaves state and memory as they are, so that only the answer a comes back beside the slice r.
abbrev pub Showing : Call → State → Slice → Slice → Answer → Slice → Type 0
Showing c s memory text a r = Answered c s (lent memory text) (given (reply s.words a) memory.bytes (some r))

-- ---- behind the test: the same of words w that are known to be sound, in place; they are v then

abbrev pub Known : Call → List ℕ → Loan → Given → Type 0
Known c w l g = Gives (step c (handed true w l.memory.bytes)) w l g

abbrev pub UnlentKnown : Call → List ℕ → List ℕ → Answer → Type 0
UnlentKnown c w v a = (l : Loan) → Known c w l (unlent (reply v a) l)

abbrev pub LentKnown : Call → List ℕ → Slice → List ℕ → Answer → List ℕ → Type 0
LentKnown c w memory v a n = (text : Slice) → Known c w (lent memory text) (given (reply v a) n none)

abbrev pub ShowingKnown : Call → List ℕ → Slice → Slice → Answer → Slice → Type 0
ShowingKnown c w memory text a r = Known c w (lent memory text) (given (reply w a) memory.bytes (some r))
