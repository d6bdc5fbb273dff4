-- A run of the public functions goes as the model's. Assumes nothing.
use mathlib.Core.Path.{◌≡◌, refl, ap, sym, subst, ◌∙◌}
use mathlib.Core.Bool.{true, false, false≢true, not}
use mathlib.Core.List.{List, ◌∷◌}
use mathlib.Core.Option.{Option}
use Prim.Native.Nat.{ℕ}
use Rattle.kernel.specs.declared.State.{State}
use Rattle.kernel.specs.declared.Reply.{Reply}
use Rattle.kernel.specs.Answer.{Said}
use Rattle.kernel.specs.Calls.{Call, Shown, nothing, part, standby}
use Rattle.kernel.specs.Refusals.{Handed}
use Rattle.kernel.specs.Step.{Outcome, step}
use Rattle.kernel.specs.Seen.{seen}
use Rattle.kernel.specs.Sound.{Sound}
use Rattle.kernel.specs.Promise.{handed_back, Loan}
use Rattle.kernel.specs.Promise as Promise
use Rattle.laws_words.proofs.Fresh.{fresh_seen, fresh_sound}
use Rattle.laws_promises.proofs.Answers.{call_sound}
use Rattle.laws_promises.proofs.SeenAs.{SeenAs, as_step}
use Rattle.laws_runs.specs.Trace.{Event, own_events, AsidesRefused, asks, instead}
use Rattle.laws_runs.specs.Run.{bytes_of, World, handed, after, trace}
use Rattle.laws_demands.specs.Run.{event, Run, start, call, aside}
use Rattle.laws_demands.specs.AsModel.{calls, AsModel}
use Rattle.laws_demands.proofs.Functions.{bytes, Promised, promised}

-- The bytes that are handed back are those that the model shows.
pub bytes_handed : (x : Shown) (l : Loan) → bytes (handed_back x l) ≡ bytes_of x l.memory.bytes l.standby.bytes
bytes_handed nothing l = refl
bytes_handed (part a n) l = refl
bytes_handed standby l = refl

-- So goes a run, call by call.
pub next : {m n left : List ℕ} {s : State} {h : List Event} {c : Call} {r : Reply} {shown : Option (List ℕ)} → AsModel m s n h → Promised s n r c left shown
    → AsModel m r.state left (event false s c r shown ∷ h)
unfolding after trace
next {m} {n} {left} {s} {h} {c} {r} {shown} a p =
    let w : World = after step m (calls h) in
    let l = p.loan in
    let memory : l.memory.bytes ≡ w.memory = p.lent ∙ a.memory_is in
    let same : Promise.handed true s.words l.memory.bytes ≡ handed w = λ i. record { sound = true; kernel = a.kernel_is i; memory = memory i } in
    let o : Outcome = step c (handed w) in
    let z = subst (λ (x : Handed). SeenAs (step c x) l (record { reply = r; memory = left; shown = p.given })) same (as_step p.answered a.sound) in
    let bytes_are : shown ≡ bytes_of o.shown w.memory (instead (asks c)) =
    sym p.shown_is ∙ ap bytes z.shown ∙ bytes_handed o.shown l
    ∙ ap (λ (x : List ℕ). bytes_of o.shown x l.standby.bytes) memory
    ∙ ap (bytes_of o.shown w.memory) p.text in
    record {
      sound = call_sound p.answered a.sound;
      kernel_is = z.kernel;
      memory_is = z.memory;
      trace_is = λ i. record { who = (a.kernel_is i).running; call = c; answer = z.answer i; shown = bytes_are i; aside = false } ∷ a.trace_is i;
    }

-- **as_model**: every run of the public functions answers and shows what the model's run does, asides left out.
pub as_model : {m n : List ℕ} {s : State} {h : List Event} → Run m s n h → AsModel m s n (own_events h)
unfolding after trace
as_model {m} (start {s} e) =
    record { sound = subst (λ (t : State). Sound t.words) (sym e) fresh_sound; kernel_is = ap (λ (t : State). seen t.words) e ∙ fresh_seen; memory_is = refl; trace_is = refl }
as_model (call r p) = next (as_model r) (promised p)
as_model (aside r p e) = as_model r

-- **asides_refused**: and every aside is a refusal.
pub asides_refused : {m n : List ℕ} {s : State} {h : List Event} → Run m s n h → AsidesRefused h
asides_refused (start e) = tt
asides_refused (call r p) = (λ a. absurd (false≢true a), asides_refused r)
asides_refused (aside r p e) = (λ a. ap (λ (x : Said). not x.refusal) e, asides_refused r)
