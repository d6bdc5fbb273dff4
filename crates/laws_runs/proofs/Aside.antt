-- Refused calls change nothing that the trace tells of channels, so what holds of a run's own events holds with asides too. Assumes nothing.
use mathlib.Core.Path.{◌≡◌, refl, sym, ap, subst, ◌∙◌}
use mathlib.Core.Bool.{Bool, true, false, true≢false, false≢true, cond, ◌&&◌}
use mathlib.Core.List.{List, [], ◌∷◌, ◌++◌}
use mathlib.Core.Option.{Option}
use Prim.Native.Nat.{ℕ, ◌+◌}
use lib.IntN.{pos}
use lib.ListN.{length}
use lib.Dec.{leb}
use Rattle.kernel.specs.Answer.{same_number}
use Rattle.kernel.specs.Calls.{Call}
use Rattle.kernel.specs.Step.{step}
use Rattle.laws_runs.specs.Trace.{Event, accepted, Throughout, own_events, AsidesRefused, Ask, new, does, message, nothing, asks}
use Rattle.laws_runs.specs.Messages.{Act, acts, log, sized, size_of, last_put}
use Rattle.laws_runs.specs.Whole.{Gave, Showed, ShownBy}
use Rattle.laws_runs.specs.Open.{Open, closed, writing, reading, left_open, open_by, Going, was_put, Exact, Exactly}
use Rattle.laws_runs.specs.Run.{handed, event, after, trace}

-- ---- a refused call

module _ (e : Event) (no : accepted e ≡ false) (c : ℕ) (h : List Event) where
  log_refused : log c (e ∷ h) ≡ log c h
  log_refused = ap (λ (b : Bool). cond b (acts c e.who (asks e.call)) [] ++ log c h) no

  pub size_refused : size_of c (e ∷ h) ≡ size_of c h
  size_refused = go (asks e.call)
    where
      go : (a : Ask) → sized c e a (size_of c h) ≡ size_of c h
      go (new n) = ap (λ (b : Bool). cond (b && same_number e.answer.number (pos c)) n (size_of c h)) no
      go (does d x) = refl
      go (message d text) = refl
      go nothing = refl

  open_refused : (t : ℕ) → open_by t c (e ∷ h) ≡ open_by t c h
  open_refused t = ap (λ (b : Bool). cond b (left_open t c e.who e.call (open_by t c h)) (open_by t c h)) no

-- ---- asides

-- The model's run has no asides.
pub own_trace : (m : List ℕ) (cs : List Call) → own_events (trace step m cs) ≡ trace step m cs
unfolding trace
own_trace m [] = refl
own_trace m (c ∷ cs) = ap (λ (h : List Event). event c (after step m cs) (step c (handed (after step m cs))) ∷ h) (own_trace m cs)

-- What no refused event changes, and hangs only on the event and on what it was before it, is the same of the own events.
same_own : {A : Type 0} (f : List Event → A) → ((e : Event) (h : List Event) → accepted e ≡ false → f (e ∷ h) ≡ f h)
    → ((e : Event) (h i : List Event) → f h ≡ f i → f (e ∷ h) ≡ f (e ∷ i)) → (h : List Event) → AsidesRefused h → f (own_events h) ≡ f h
same_own f leaves hangs [] r = refl
same_own f leaves hangs (e ∷ h) r = go e.aside refl (same_own f leaves hangs h r.1)
  where
    go : (b : Bool) → e.aside ≡ b → f (own_events h) ≡ f h → f (cond b (own_events h) (e ∷ own_events h)) ≡ f (e ∷ h)
    go true a ih = ih ∙ sym (leaves e h (r.0 a))
    go false a ih = hangs e (own_events h) h ih

module _ (h : List Event) (r : AsidesRefused h) (c : ℕ) where
  log_own : log c (own_events h) ≡ log c h
  log_own = same_own (log c) (λ e i no. log_refused e no c i) (λ e i j q. ap (λ (l : List Act). cond (accepted e) (acts c e.who (asks e.call)) [] ++ l) q) h r

  size_own : size_of c (own_events h) ≡ size_of c h
  size_own = same_own (size_of c) (λ e i no. size_refused e no c i) (λ e i j q. ap (sized c e (asks e.call)) q) h r

  open_own : (t : ℕ) → open_by t c (own_events h) ≡ open_by t c h
  open_own t =
      same_own (open_by t c) (λ e i no. open_refused e no c i t) (λ e i j q. ap (λ (o : Open). cond (accepted e) (left_open t c e.who e.call o) o) q) h r

-- What holds of each of the own events, and of each aside, holds of each event.
throughout : (P : Event → List Event → Type 0) → ((e : Event) (h : List Event) → AsidesRefused h → P e (own_events h) → P e h)
    → ((e : Event) (h : List Event) → e.aside ≡ true → accepted e ≡ false → P e h) → (h : List Event) → AsidesRefused h → Throughout P (own_events h) → Throughout P h
throughout P own aside [] r p = tt
throughout P own aside (e ∷ h) r p = go e.aside refl p (throughout P own aside h r.1)
  where
    go : (b : Bool) → e.aside ≡ b → Throughout P (cond b (own_events h) (e ∷ own_events h)) → (Throughout P (own_events h) → Throughout P h) → P e h × Throughout P h
    go true a p ih = (aside e h a (r.0 a), ih p)
    go false a p ih = (own e h r.1 p.0, ih p.1)

-- So it is with what is shown, and with which calls are accepted.
pub shown_own : (f : ℕ → ℕ → List Act → Option (List ℕ)) (h : List Event) → AsidesRefused h → ShownBy f (own_events h) → ShownBy f h
shown_own f =
    throughout (λ e before. (c : ℕ) → Showed c e → Gave (f (size_of c before) e.who (log c before)) e.shown)
    (λ e h r p c s. subst (λ (x : Option (List ℕ)). Gave x e.shown) (λ i. f (size_own h r c i) e.who (log_own h r c i)) (p c s))
    (λ e h a no c s. absurd (false≢true (sym no ∙ s.taken)))

pub exactly_own : (h : List Event) → AsidesRefused h → Exactly (own_events h) → Exactly h
exactly_own =
    throughout (λ e before. e.aside ≡ false → Going e → Exact e before) (λ e h r p own on. exact e h r (p own on)) (λ e h a no own. absurd (true≢false (sym a ∙ own)))
  where
    exact : (e : Event) (h : List Event) → AsidesRefused h → Exact e (own_events h) → Exact e h
    exact e h r x =
        record {
          writes = λ c q l used none. x.writes c q l (λ z. used (sym (size_own h r c) ∙ z)) (λ t. open_own h r c t ∙ none t);
          pieces = λ c a bs q. x.pieces c a bs q ∙ (λ i. writing (open_own h r c e.who i) && leb (a + length bs) (size_own h r c i));
          puts = λ c q. x.puts c q ∙ ap writing (open_own h r c e.who);
          readings = λ c q. x.readings c q ∙ (λ i. closed (open_own h r c e.who i) && was_put (last_put (size_own h r c i) (log_own h r c i)));
          showings = λ c q. x.showings c q ∙ ap reading (open_own h r c e.who);
          screens = λ c text q. x.screens c text q ∙ ap reading (open_own h r c e.who);
          closes = λ c q. x.closes c q ∙ ap reading (open_own h r c e.who);
        }
