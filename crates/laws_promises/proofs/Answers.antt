-- What the promise of a call says, over all calls. Assumes nothing.
use mathlib.Core.Path.{◌≡◌, refl, ap, sym, subst, ◌∙◌}
use mathlib.Core.Bool.{Bool, true, false}
use mathlib.Core.Logic.{◌↔◌}
use mathlib.Core.List.{List, []}
use mathlib.Core.Option.{Option, none, some}
use Prim.Native.Nat.{ℕ}
use lib.IntN.{ℤ}
use Rattle.std.specs.Prelude.{Err}
use Rattle.kernel.specs.declared.State.{State}
use Rattle.kernel.specs.declared.Reply.{Reply}
use Rattle.kernel.specs.Answer.{Answer, Said, refused, said}
use Rattle.kernel.specs.Calls.{Call, effect}
use Rattle.kernel.specs.Refusals.{Handed, first, table, rows}
use Rattle.kernel.specs.Step.{by_table, step}
use Rattle.kernel.specs.Seen.{seen}
use Rattle.kernel.specs.Good.{Good}
use Rattle.kernel.specs.Sound.{Sound}
use Rattle.kernel.specs.Promise.{handed, runs, Loan, Given, Gives, Answered, Unlent, Known, UnlentKnown}
use Rattle.kernel.proofs.Said.{refusal_of, same_answer, done_refused}
use Rattle.kernel.proofs.Refusals.{Each, listed}
use Rattle.kernel.proofs.Rows.{not_none, number_or}
use Rattle.kernel.proofs.Decided.{yes as truly}
use Rattle.kernel.proofs.Allowed.{allowed}
use Rattle.laws_effects.proofs.Effects.{effect_good}
use Rattle.laws_words.proofs.Determined.{determined}
use Rattle.laws_promises.specs.Outcome.{TookEffect}

-- Two that say truly whether the same holds say the same.
one_truth : {P : Type 0} (a b : Bool) → (a ≡ true) ↔ P → (b ≡ true) ↔ P → a ≡ b
one_truth true b f g = sym (g.1 (f.0 refl))
one_truth false true f g = f.1 (g.0 refl)
one_truth false false f g = refl

-- ---- what one promise says

-- What is given back where the table says o.
abbrev pub By : Call → State → Loan → Given → Bool → Option ℤ → Type 0
By c s l g b o = Gives (by_table o (effect c (seen s.words) l.memory.bytes) (handed b s.words l.memory.bytes)) s.words l g

-- What the table says.
abbrev pub says : Call → State → Loan → Bool → Option ℤ
says c s l b = first (rows c (handed b s.words l.memory.bytes))

-- Each number that it says is that of a refusal.
pub has_number : (c : Call) (h : Handed) {x : ℤ} → first (rows c h) ≡ some x → said (Err (refusal_of x)) ≡ refused x
has_number c h =
    listed (λ x. said (Err (refusal_of x)) ≡ refused x) c h
    (refl, (refl, (refl, (refl, (refl, (refl, (refl, (refl, (refl, (refl, (refl, (refl, (refl, (refl, (refl, tt)))))))))))))))

-- Where no row applies, the state is sound, and the next kernel is good.
pub next_good : (c : Call) (s : State) (l : Loan) (b : Bool) → (b ≡ true) ↔ Sound s.words → says c s l b ≡ none → Good (effect c (seen s.words) l.memory.bytes).kernel
next_good c s l b d e =
    let truth = (allowed (handed b s.words l.memory.bytes) c e).sound in
    effect_good c (seen s.words) l.memory.bytes (d.0 truth).good (subst (λ (t : Bool). says c s l t ≡ none) truth e)

module _ {c : Call} {s : State} {l : Loan} {g : Given} (a : Answered c s l g) where
  -- The table is told truly, whoever tells it.
  pub by : (b : Bool) → (b ≡ true) ↔ Sound s.words → By c s l g b (says c s l b)
  unfolding step
  by b d = subst (λ (t : Bool). By c s l g t (says c s l t)) (one_truth a.sound b a.decided d) a.gives

  -- **refused_exactly**: a call is refused with x exactly where row x is the first of the table that applies.
  pub refused_exactly : (b : Bool) → (b ≡ true) ↔ Sound s.words → (x : ℤ) → (said g.reply.answer ≡ refused x) ↔ (says c s l b ≡ some x)
  refused_exactly b d x = go (says c s l b) (by b d)
    where
      go : (o : Option ℤ) → By c s l g b o → (said g.reply.answer ≡ refused x) ↔ (o ≡ some x)
      go none h = (λ e. absurd (done_refused (sym h.answer ∙ e)), λ e. absurd (not_none (sym e)))
      go (some y) h = (λ e. ap some (ap (λ (y : Said). y.number) (sym h.answer ∙ e)), λ e. h.answer ∙ ap refused (ap (number_or y) e))

  -- **refused_listed**: its number is one of the document's list, so that what is true of all of those is true of it.
  pub refused_listed : (P : ℤ → Type 0) → Each P table → (x : ℤ) → said g.reply.answer ≡ refused x → P x
  refused_listed P p x e = listed P c (handed a.sound s.words l.memory.bytes) p ((refused_exactly a.sound a.decided x).0 e)

  -- **refused_unchanged**: a refused call leaves state and memory as they were.
  pub refused_unchanged : (x : ℤ) → said g.reply.answer ≡ refused x → (g.reply.state ≡ s) × (g.memory ≡ l.memory.bytes)
  refused_unchanged x e = go (says c s l a.sound) (by a.sound a.decided)
    where
      go : (o : Option ℤ) → By c s l g a.sound o → (g.reply.state ≡ s) × (g.memory ≡ l.memory.bytes)
      go none h = absurd (done_refused (sym h.answer ∙ e))
      go (some y) h = (λ i. record { words = h.state i }, h.memory)

  -- **takes_effect**: a legal call takes effect: it is no refusal, and the next state, the memory and what is handed back are the model's.
  pub takes_effect : Sound s.words → says c s l true ≡ none → TookEffect (effect c (seen s.words) l.memory.bytes) l g
  takes_effect w e =
      let h : By c s l g true none = subst (By c s l g true) e (by true (truly w)) in
      record { answer = h.answer; state = h.state; memory = h.memory; shown = h.shown }

  -- **call_sound**: each call on a sound state leaves a sound one.
  pub call_sound : Sound s.words → Sound g.reply.state.words
  call_sound w = go (says c s l true) refl (by true (truly w))
    where
      go : (o : Option ℤ) → says c s l true ≡ o → By c s l g true o → Sound g.reply.state.words
      go none e h = record { formed = h.state.kept.formed; filed = h.state.kept.filed; good = subst Good (sym h.state.is) (next_good c s l true (truly w) e) }
      go (some x) e h = subst Sound (sym h.state) w

-- **known_sound**: so does each call behind the test, on words that are known to be sound: one test is enough for any number of them.
pub known_sound : (c : Call) (w : List ℕ) (l : Loan) {g : Given} → Known c w l g → Sound w → Sound g.reply.state.words
known_sound c w l {g} h s = let a : Answered c (record { words = w }) l g = record { sound = true; decided = truly s; gives = h } in call_sound a s

-- So it is where nothing is lent, which is true of any loan and so of this one.
unfoldable pub no_loan : Loan
no_loan = record { memory = record { place = (0, 0); bytes = [] }; standby = record { place = (0, 0); bytes = [] } }

pub unlent_sound : {c : Call} {s : State} {r : Reply} → Unlent c s r → Sound s.words → Sound r.state.words
unlent_sound u = call_sound (u no_loan)

pub unlent_known_sound : (c : Call) {w v : List ℕ} {a : Answer} → UnlentKnown c w v a → Sound w → Sound v
unlent_known_sound c {w} u = known_sound c w no_loan (u no_loan)

-- **one_outcome**: any two outcomes that a call's promise permits are equal: answer, state, running task, memory, and the slice handed back
-- with its place.
pub one_outcome : {c : Call} {s : State} {l : Loan} {g g' : Given} → Answered c s l g → Answered c s l g' → g ≡ g'
one_outcome {c} {s} {l} {g} {g'} a b = go (says c s l a.sound) refl (by a a.sound a.decided) (by b a.sound a.decided)
  where
    replied : g.reply.answer ≡ g'.reply.answer → g.reply.state.words ≡ g'.reply.state.words → g.reply.running ≡ runs g.reply.state.words
        → g'.reply.running ≡ runs g'.reply.state.words
        → g.reply ≡ g'.reply
    replied e f u v =
        let w : g.reply.running ≡ g'.reply.running = u ∙ ap runs f ∙ sym v in
        λ i. record { state = record { words = f i }; answer = e i; running = w i }

    same : (o : Option ℤ) → By c s l g a.sound o → By c s l g' a.sound o → g.reply.state.words ≡ g'.reply.state.words → g ≡ g'
    same o h k states =
        let replies = replied (same_answer (h.answer ∙ sym k.answer)) states h.running k.running in
        let memories = h.memory ∙ sym k.memory in
        let slices = h.shown ∙ sym k.shown in
        λ i. record { reply = replies i; memory = memories i; shown = slices i }

    go : (o : Option ℤ) → says c s l a.sound ≡ o → By c s l g a.sound o → By c s l g' a.sound o → g ≡ g'
    go (some x) e h k = same (some x) h k (h.state ∙ sym k.state)
    go none e h k = same none h k (determined h.state k.state)
