-- From the verdict and the work to the promise of a call, behind the test of soundness; and from there to the promise of a public call. Assumes
-- nothing.
use mathlib.Core.Path.{◌≡◌, refl, ap, sym, subst, ◌∙◌}
use mathlib.Core.Bool.{Bool, true, false, not, cond}
use mathlib.Core.Logic.{◌↔◌}
use mathlib.Core.List.{List, []}
use mathlib.Core.Option.{Option, none, some}
use Prim.Native.Nat.{ℕ, ◌<◌}
use lib.IntN.{ℤ, pos}
use lib.ListN.{length}
use lib.Dec.{eqb}
use mir.Facts.{to_z_pos}
use mir.Syntax.{w64}
use mir.Val.{to_z}
use borrow.Author.Rules.{rules}
use Rattle.std.specs.Prelude.{Ok, Err, IsErr, IsErrAnd}
use Rattle.kernel.specs.declared.Refusal.{Refusal}
use Rattle.kernel.specs.declared.Refusal.TheVariants.{NotSound, WrongMemory}
use Rattle.kernel.specs.declared.State.{State}
use Rattle.kernel.specs.declared.Reply.{Reply}
use Rattle.kernel.specs.Answer.{Answer, refusal_number}
use Rattle.kernel.specs.Sizes.{memory_size}
use Rattle.kernel.specs.Kernel.{Kernel}
use Rattle.kernel.specs.Calls.{Call, verb, question, on_channel, open_channel, begin_write, piece, put, begin_reading, showing, close, screen, Shown, nothing, Effect, told, done, with_memory, effect}
use Rattle.kernel.specs.Refusals.{Row, -11, -12, first, rows, lent as lent_rows}
use Rattle.kernel.specs.Step.{by_table, step}
use Rattle.kernel.specs.Seen.{seen}
use Rattle.kernel.specs.Sound.{Sound}
use Rattle.kernel.specs.Shows.{Shows}
use Rattle.kernel.specs.Slices.{Slice}
use Rattle.kernel.specs.Promise.{handed, handed_back, Loan, Given, Gives, Answered, reply, lent, given, Unlent, Lent, Known, UnlentKnown, LentKnown}
use Rattle.kernel.proofs.Shows.{kept, itself}
use Rattle.kernel.proofs.Allowed.{Told, Allowed, allowed}
use Rattle.refusals.specs.Tested.{Said, refusing_number, Tested, of_lent, Judged, Verdict, LentVerdict, Legal, LentNothing, unsound}

-- What `?` says of the answer a, where it hands on the refusal r.
abbrev GoesUp : Answer → Refusal → Type 0
GoesUp a r = IsErr a × IsErrAnd a (λ e. e ≡ r)

goes_up : (a : Answer) {r : Refusal} → GoesUp a r → a ≡ Err r
goes_up (Ok n) h = absurd h.1
goes_up (Err e) h = ap (λ (x : Refusal). Err x) h.1

-- ---- any call

module _ {c : Call} {w : List ℕ} {v : Said} where
  -- Where the table lets the call pass, it is told all that its rows test.
  pub lets_pass : {m : List ℕ} → Judged c w m v → v ≡ Ok tt → Allowed c (seen w) m
  lets_pass {m} j p = (allowed (handed true w m) c (j.tested.says ∙ ap refusing_number p)).allowed

  module _ (l : Loan) (j : Judged c w l.memory.bytes v) where
    -- What is given back where the table says o.
    by : {o : Option ℤ} {g : Given} → refusing_number v ≡ o → Gives (by_table o (effect c (seen w) l.memory.bytes) (handed true w l.memory.bytes)) w l g → Known c w l g
    unfolding step
    by {g = g} e h = subst (λ (o : Option ℤ). Gives (by_table o (effect c (seen w) l.memory.bytes) (handed true w l.memory.bytes)) w l g) (sym (j.tested.says ∙ e)) h

    pub turned_down : {r : Refusal} {x : Shown} → v ≡ Err r → (effect c (seen w) l.memory.bytes).instead ≡ x
        → Known c w l (given (reply w (Err r)) l.memory.bytes (handed_back x l))
    turned_down e is =
        by (ap refusing_number e)
        (record { answer = refl; state = refl; running = refl; memory = refl; shown = ap (λ (z : Shown). handed_back z l) (sym is) })

    pub carried_out : {f : Effect} {u : List ℕ} → v ≡ Ok tt → effect c (seen w) l.memory.bytes ≡ f → Shows u f.kernel
        → Known c w l (given (reply u (Ok f.number)) f.memory (handed_back f.shown l))
    carried_out {f} {u} e is shows =
        by (ap refusing_number e)
        (subst
        (λ (x : Effect). Gives (by_table none x (handed true w l.memory.bytes)) w l (given (reply u (Ok f.number)) f.memory (handed_back f.shown l)))
        (sym is)
        (record { answer = refl; state = shows; running = refl; memory = refl; shown = refl }))

-- ---- a call that is lent no memory

-- A legal call is told all that its rows test.
pub allows : {c : Call} {w : List ℕ} → Legal c w → Told (handed true w []) (Allowed c (seen w) [])
allows {c} {w} l = allowed (handed true w []) c (l.none [])

module _ {c : Call} {w : List ℕ} {v : Said} (t : Verdict c w v) where
  pub legal : Sound w → v ≡ Ok tt → Legal c w
  legal h p = record { sound = h; none = λ m. (t m).tested.says ∙ ap refusing_number p }

  -- The refusal r goes up.
  pub refused : {r : Refusal} {a : Answer} → v ≡ Err r → GoesUp a r → ((m : List ℕ) → (effect c (seen w) m).instead ≡ nothing) → UnlentKnown c w w a
  refused e up is = subst (UnlentKnown c w w) (sym (goes_up _ up)) (λ l. turned_down l (t l.memory.bytes) e (is l.memory.bytes))

  pub took_effect : {x : ℤ} {k : Kernel} {u : List ℕ} → v ≡ Ok tt → Shows u k → ((m : List ℕ) → effect c (seen w) m ≡ told x k m) → UnlentKnown c w u (Ok x)
  took_effect e shows is = λ l. carried_out l (t l.memory.bytes) e (is l.memory.bytes) shows

  -- The answer is the number that was taken.
  pub numbered : {n x : ℕ} {k : Kernel} {u : List ℕ} {a : Answer} → v ≡ Ok tt → a ≡ Ok (pos n) → n ≡ x → Shows u k → ((m : List ℕ) → effect c (seen w) m ≡ told (pos x) k m)
      → UnlentKnown c w u a
  numbered {u = u} e said is shows so = subst (UnlentKnown c w u) (sym (said ∙ ap (λ (z : ℕ). Ok (pos z)) is)) (took_effect e shows so)

  -- A question changes nothing, and answers the number x.
  pub asked : {z x : ℤ} → Sound w → v ≡ Ok tt → z ≡ x → ((m : List ℕ) → effect c (seen w) m ≡ told x (seen w) m) → UnlentKnown c w w (Ok z)
  asked h e is so = subst (λ (y : ℤ). UnlentKnown c w w (Ok y)) (sym is) (took_effect e (itself (kept h)) so)

  pub asked_number : {n x : ℕ} → Sound w → v ≡ Ok tt → n < 9223372036854775808 → n ≡ x → ((m : List ℕ) → effect c (seen w) m ≡ told (pos x) (seen w) m)
      → UnlentKnown c w w (Ok (to_z w64 n))
  asked_number h e l is so = asked h e (to_z_pos w64 l ∙ ap pos is) so

-- ---- a call that is lent the memory

-- What is said of a memory's length is said of the memory.
pub judged : {c : Call} {w : List ℕ} {own : List Row} {n : ℕ} {v : Said} → Tested (of_lent w n own) v → ((m : List ℕ) → rows c (handed true w m) ≡ of_lent w (length m) own) → LentVerdict c w n v
judged {w = w} {own} {v = v} t is m e = record { tested = subst (λ (r : List Row). Tested r v) (ap (λ (x : ℕ). of_lent w x own) (sym e) ∙ sym (is m)) t }

module _ {c : Call} {w : List ℕ} {m : Slice} {v : Said} (j : LentVerdict c w (length m.bytes) v) where
  pub lent_refused : {r : Refusal} {a : Answer} → v ≡ Err r → GoesUp a r → (effect c (seen w) m.bytes).instead ≡ nothing → LentKnown c w m w a m.bytes
  lent_refused e up is = subst (λ (z : Answer). LentKnown c w m w z m.bytes) (sym (goes_up _ up)) (λ text. turned_down (lent m text) (j m.bytes refl) e is)

  pub lent_took_effect : {k : Kernel} {n : List ℕ} {u : List ℕ} → v ≡ Ok tt → Shows u k → effect c (seen w) m.bytes ≡ with_memory (done k) n → LentKnown c w m u (Ok (pos 0)) n
  lent_took_effect e shows is = λ text. carried_out (lent m text) (j m.bytes refl) e is shows

-- The needs of a call behind the test.
pub ruleset behind = (rules, legal, refused, took_effect, numbered, asked_number, judged, lent_refused, lent_took_effect)

-- ---- the border: b says whether the words are sound

module _ {b : Bool} {s : State} (d : (b ≡ true) ↔ Sound s.words) where
  pub sound_words : b ≡ true → Sound s.words
  sound_words e = d.0 e

  module _ {c : Call} where
    -- Sound words are answered as behind the test.
    pub sound_answers : {l : Loan} {g : Given} → b ≡ true → Known c s.words l g → Answered c s l g
    sound_answers {l} {g} e h =
        record { sound = b; decided = d; gives = subst (λ (z : Bool). Gives (step c (handed z s.words l.memory.bytes)) s.words l g) (sym e) h }

    -- Others are refused, with the number that the rows give to a state that is not sound.
    pub unsound_answers : {r : Refusal} {x : Shown} (l : Loan) → b ≡ false → first (rows c (handed false s.words l.memory.bytes)) ≡ some (refusal_number r)
        → (effect c (seen s.words) l.memory.bytes).instead ≡ x → Answered c s l (given (reply s.words (Err r)) l.memory.bytes (handed_back x l))
    unfolding step
    unsound_answers {r} {x} l e row is =
        record {
          sound = b;
          decided = d;
          gives = subst
              (λ (o : Option ℤ). Gives (by_table o (effect c (seen s.words) l.memory.bytes) (handed b s.words l.memory.bytes)) s.words l (given (reply s.words (Err r)) l.memory.bytes (handed_back x l)))
              (sym row ∙ ap (λ (z : Bool). first (rows c (handed z s.words l.memory.bytes))) (sym e))
              (record { answer = refl; state = refl; running = refl; memory = refl; shown = ap (λ (z : Shown). handed_back z l) (sym is) });
        }

-- A call that is lent no memory, on a state that is not sound: row -11 is the first, and nothing is handed back.
unlent_row : (c : Call) → LentNothing c → (w m : List ℕ) → first (rows c (handed false w m)) ≡ some -11
unlent_row (verb v) p w m = refl
unlent_row (question q) p w m = refl
unlent_row (on_channel (open_channel n b)) p w m = refl
unlent_row (on_channel (begin_write c)) p w m = absurd p
unlent_row (on_channel (piece c a bs)) p w m = absurd p
unlent_row (on_channel (put c)) p w m = absurd p
unlent_row (on_channel (begin_reading c)) p w m = absurd p
unlent_row (on_channel (showing c)) p w m = absurd p
unlent_row (on_channel (close c)) p w m = absurd p
unlent_row (on_channel (screen c text)) p w m = absurd p

unlent_shows : (c : Call) → LentNothing c → (k : Kernel) (m : List ℕ) → (effect c k m).instead ≡ nothing
unfolding effect
unlent_shows (verb v) p k m = refl
unlent_shows (question q) p k m = refl
unlent_shows (on_channel (open_channel n b)) p k m = refl
unlent_shows (on_channel (begin_write c)) p k m = absurd p
unlent_shows (on_channel (piece c a bs)) p k m = absurd p
unlent_shows (on_channel (put c)) p k m = absurd p
unlent_shows (on_channel (begin_reading c)) p k m = absurd p
unlent_shows (on_channel (showing c)) p k m = absurd p
unlent_shows (on_channel (close c)) p k m = absurd p
unlent_shows (on_channel (screen c text)) p k m = absurd p

-- What a public call answers that is lent no memory. Where the words are not sound, it gives them back.
pub unlent_unsound : {b : Bool} {c : Call} {s : State} → (b ≡ true) ↔ Sound s.words → b ≡ false → LentNothing c → Unlent c s (reply s.words (Err NotSound))
unlent_unsound {c = c} {s} d e p l = unsound_answers d l e (unlent_row c p s.words l.memory.bytes) (unlent_shows c p (seen s.words) l.memory.bytes)

-- Else what is said behind the test.
pub unlent_known : {b : Bool} {c : Call} {s : State} {v : List ℕ} {a : Answer} → (b ≡ true) ↔ Sound s.words → b ≡ true → UnlentKnown c s.words v a → Unlent c s (reply v a)
unlent_known d e h l = sound_answers d e (h l)

-- Of a call that is lent a memory: -12 where that has another length, and else -11, whatever the call's own rows are.
pub unsound_row : (w m : List ℕ) → first (lent_rows (handed false w m) []) ≡ some (refusal_number (unsound (length m)))
unsound_row w m = go (eqb (length m) memory_size)
  where
    go : (b : Bool) → cond (not b) (some -12) (some -11) ≡ some (refusal_number (cond b NotSound WrongMemory))
    go true = refl
    go false = refl

pub lent_unsound : {b : Bool} {c : Call} {s : State} {m : Slice} {r : Reply} → (b ≡ true) ↔ Sound s.words → b ≡ false → r ≡ reply s.words (Err (unsound (length m.bytes)))
    → first (rows c (handed false s.words m.bytes)) ≡ first (lent_rows (handed false s.words m.bytes) [])
    → (effect c (seen s.words) m.bytes).instead ≡ nothing
    → Lent c s m r m.bytes
lent_unsound {c = c} {s} {m} d e is row instead =
    subst (λ (r : Reply). Lent c s m r m.bytes) (sym is) (λ text. unsound_answers d (lent m text) e (row ∙ unsound_row s.words m.bytes) instead)

pub lent_known : {b : Bool} {c : Call} {s : State} {m : Slice} {r : Reply} {v : List ℕ} {a : Answer} {n : List ℕ} → (b ≡ true) ↔ Sound s.words → b ≡ true → LentKnown c s.words m v a n → r ≡ reply v a
    → Lent c s m r n
lent_known {c = c} {s} {m} {n = n} d e h is = subst (λ (r : Reply). Lent c s m r n) (sym is) (λ text. sound_answers d e (h text))

-- The needs of a public call that is lent a memory.
pub ruleset border = (rules, sound_words, lent_unsound, lent_known)
