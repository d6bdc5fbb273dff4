-- In a run of the public functions too a HARD task is activated once a period at most, and one never activated is never too soon. Assumes nothing.
use mathlib.Core.Path.{◌≡◌, refl, ap, sym, subst, subst₂, ◌∙◌}
use mathlib.Core.Bool.{Bool, true, false, false≢true, cond}
use mathlib.Core.List.{List, [], ◌∷◌, ◌++◌}
use Prim.Native.Nat.{ℕ, ◌+◌, ◌≤◌}
use borrow.Author.Tests.{not-true}
use Rattle.kernel.specs.Answer.{Said}
use Rattle.kernel.specs.Status.{FREE, status_number}
use Rattle.kernel.specs.Kernel.{Kernel, task, hard, period_of}
use Rattle.kernel.specs.Calls.{activate, Call, verb}
use Rattle.kernel.specs.Step.{step}
use Rattle.laws_runs.specs.Trace.{Event, accepted, own_events, AsidesRefused}
use Rattle.laws_runs.specs.Run.{handed, after, kernel_after, trace}
use Rattle.laws_runs.proofs.Activations as Model
use Rattle.laws_runs.proofs.Activations.{Takes, Unactivated as UnactivatedBy}
use Rattle.laws_demands.specs.AsModel.{calls}
use Rattle.laws_demands.specs.Activations.{Activation, OnceAPeriod, Unactivated, NeverActivatedPasses}
use Rattle.laws_demands.proofs.Model.{as_model, asides_refused}

-- ---- the run's own events

own_behind : (g h : List Event) → own_events (g ++ h) ≡ own_events g ++ own_events h
own_behind [] h = refl
own_behind (e ∷ g) h = go e.aside (own_behind g h)
  where
    go : (b : Bool) → own_events (g ++ h) ≡ own_events g ++ own_events h
        → cond b (own_events (g ++ h)) (e ∷ own_events (g ++ h)) ≡ cond b (own_events g) (e ∷ own_events g) ++ own_events h
    go true is = is
    go false is = ap (λ (l : List Event). e ∷ l) is

own_first : (e : Event) (h : List Event) → e.aside ≡ false → own_events (e ∷ h) ≡ e ∷ own_events h
own_first e h a = rw a refl

own_unactivated : (x : ℕ) (g : List Event) → Unactivated x g → Unactivated x (own_events g)
own_unactivated x [] u = tt
own_unactivated x (e ∷ g) u = go e.aside (own_unactivated x g u.1)
  where
    go : (b : Bool) → Unactivated x (own_events g) → Unactivated x (cond b (own_events g) (e ∷ own_events g))
    go true rest = rest
    go false rest = (u.0, rest)

calls_behind : (g h : List Event) → calls (g ++ h) ≡ calls g ++ calls h
calls_behind [] h = refl
calls_behind (e ∷ g) h = ap (λ (cs : List Call). e.call ∷ cs) (calls_behind g h)

-- ---- a trace of the model

abbrev rest : List Event → List Event
rest [] = []
rest (e ∷ h) = h

abbrev answer_or : Said → List Event → Said
answer_or a [] = a
answer_or a (e ∷ h) = e.answer

module _ (m : List ℕ) where
  abbrev Told : List Event → Type 0
  Told h = h ≡ trace step m (calls h)

  -- The first event's answer is that of its call, and what stands behind it is a trace too.
  answers : (e : Event) (h : List Event) → Told (e ∷ h) → e.answer ≡ (step e.call (handed (after step m (calls h)))).answer
  unfolding trace
  answers e h t = ap (answer_or e.answer) t

  behind : (e : Event) (h : List Event) → Told (e ∷ h) → Told h
  unfolding trace
  behind e h t = ap rest t

  behind_all : (g h : List Event) → Told (g ++ h) → Told h
  behind_all [] h t = t
  behind_all (e ∷ g) h t = behind_all g h (behind e (g ++ h) t)

  module _ (x : ℕ) where
    -- An activation that took effect is one of the model.
    takes : (e : Event) (h : List Event) → Told (e ∷ h) → Activation x e → Takes m (verb (activate x)) (calls h)
    takes e h t a =
        subst (λ (c : Call). Takes m c (calls h)) a.call (ap (λ (z : Said). z.refusal) (sym (answers e h t)) ∙ not-true e.answer.refusal a.taken)

    unactivated : (g h : List Event) → Told (g ++ h) → Unactivated x g → UnactivatedBy m x (calls h) (calls g)
    unactivated [] h t u = tt
    unactivated (e ∷ g) h t u = (
      λ is taken.
          u.0
          (record {
            call = is;
            taken = rw (answers e (g ++ h) t, calls_behind g h, taken) refl;
          }),
      unactivated g h (behind e (g ++ h) t) u.1,
    )

-- ---- the functions

-- What takes effect is no aside.
own : {x : ℕ} {e : Event} (g h : List Event) → AsidesRefused (g ++ e ∷ h) → Activation x e → e.aside ≡ false
own {e = e} [] h r a = go e.aside r.0
  where
    go : (b : Bool) → (b ≡ true → accepted e ≡ false) → b ≡ false
    go true refuses = absurd (false≢true (sym (refuses refl) ∙ a.taken))
    go false refuses = refl
own (d ∷ g) h r a = own g h r.1 a

-- A run that went on by the event e, one of its own, and by the events g.
onward : (g h : List Event) (e : Event) → e.aside ≡ false → own_events (g ++ e ∷ h) ≡ own_events g ++ e ∷ own_events h
onward g h e mine = own_behind g (e ∷ h) ∙ ap (λ (l : List Event). own_events g ++ l) (own_first e h mine)

-- **once_a_period**: a HARD task is activated at most once in its period.
pub once_a_period : OnceAPeriod
once_a_period m n o p s t u g h d e x r between again one two there =
    let past = own_events g in
    let before = own_events h in
    let is = onward g h e (own g h (asides_refused between) one) in
    let told : Told m (d ∷ past ++ e ∷ before) = subst (Told m) (own_first d (g ++ e ∷ h) (own [] (g ++ e ∷ h) (asides_refused again) two) ∙ ap (λ (l : List Event). d ∷ l) is) (as_model again).trace_is in
    let so : calls (past ++ e ∷ before) ≡ calls past ++ verb (activate x) ∷ calls before =
    calls_behind past (e ∷ before) ∙ ap (λ (c : Call). calls past ++ c ∷ calls before) one.call in
    subst₂ (λ (k j : Kernel). k.clock + period_of (task k x).class ≤ j.clock)
    (sym (as_model r).kernel_is)
    (sym ((as_model between).kernel_is ∙ ap (λ (l : List Event). kernel_after step m (calls l)) is ∙ ap (kernel_after step m) so))
    (Model.once_a_period m x (calls before) (calls past)
    (subst (λ (k : Kernel). hard (task k x).class ≡ true) (as_model r).kernel_is there)
    (takes m x e before (behind_all m past (e ∷ before) (behind m d (past ++ e ∷ before) told)) one)
    (subst (Takes m (verb (activate x))) so (takes m x d (past ++ e ∷ before) told two)))

-- **never_activated_passes**: a task that was never activated is not refused with -15.
pub never_activated_passes : NeverActivatedPasses
never_activated_passes m n p s u g h d x r again free un call mine refused =
    let past = own_events g in
    let before = own_events h in
    let told : Told m (d ∷ past ++ before) = subst (Told m) (own_first d (g ++ h) mine ∙ ap (λ (l : List Event). d ∷ l) (own_behind g h)) (as_model again).trace_is in
    Model.never_activated_passes m x (calls before) (calls past)
    (subst (λ (k : Kernel). status_number (task k x).status ≡ FREE) (as_model r).kernel_is free)
    (unactivated m x past before (behind m d (past ++ before) told) (own_unactivated x g un))
    (subst (λ (cs : List Call). (step (verb (activate x)) (handed (after step m cs))).answer ≡ d.answer) (calls_behind past before)
    (subst (λ (c : Call). (step c (handed (after step m (calls (past ++ before))))).answer ≡ d.answer) call (sym (answers m d (past ++ before) told)))
    ∙ refused)
