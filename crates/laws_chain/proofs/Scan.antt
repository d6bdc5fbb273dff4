-- A loop that scans a queue for the place of a new task: it goes on while the task at hand is passed. Assumes nothing.
use mathlib.Core.Path.{◌≡◌, refl, ap, sym, ◌∙◌}
use mathlib.Core.Bool.{Bool, true, false}
use mathlib.Core.List.{List, [], ◌∷◌}
use Prim.Native.Nat.{ℕ, ◌≤◌, ◌<◌}
use native.Mathlib.Omega.{arith}
use lib.IntN.{ℤ, pos}
use lib.ListN.{length}
use Rattle.laws_chain.specs.Lists.{lead, behind}
use Rattle.laws_chain.specs.Chain.{end, start, finish, Stretch, Chain, Gap, target, walk}
use Rattle.laws_chain.proofs.Stretch.{found}

module _ (n : ℕ) (next previous : ℕ → ℤ) where
  -- Where a link of a chain leads to a task, that is the first of what is left, and where it leads to none, nothing is left.
  pub record Ahead (now : ℤ) : Type 0 where
    pub tail : List ℕ
    pub is : walk n next n now ≡ target n now ∷ tail
    pub link : now ≡ pos (target n now)
    pub on : Stretch n next previous end now (next (target n now)) tail
    pub then : walk n next n (next (target n now)) ≡ tail

  pub ahead : (back now : ℤ) → Stretch n next previous end back now (walk n next n now) → target n now < n → Ahead now
  ahead back now s l = go (walk n next n now) refl s
    where
      go : (ys : List ℕ) → walk n next n now ≡ ys → Stretch n next previous end back now ys → Ahead now
      go [] w e = absurd (let t : target n now ≡ n = ap (target n) e in omega arith)
      go (y ∷ ys) w t =
          let e : target n now ≡ y = ap (target n) t.1 in
          let o : Stretch n next previous end now (next (target n now)) ys = rw (e, t.1) t.3 in
          record {
            tail = ys;
            is = w ∙ ap (λ (x : ℕ). x ∷ ys) (sym e);
            link = t.1 ∙ ap pos (sym e);
            on = o;
            then = found n next previous now (next (target n now)) ys o;
          }

  pub nothing_left : (back now : ℤ) → Stretch n next previous end back now (walk n next n now) → n ≤ target n now → (walk n next n now ≡ []) × (now ≡ end)
  nothing_left back now s l = go (walk n next n now) refl s
    where
      go : (ys : List ℕ) → walk n next n now ≡ ys → Stretch n next previous end back now ys → (walk n next n now ≡ []) × (now ≡ end)
      go [] w e = (w, e)
      go (y ∷ ys) w t = absurd (let e : target n now ≡ y = ap (target n) t.1 in let h : y < n = t.0 in omega arith)

  -- The scan under way from `head`: it stands at the link `now`, and came there from the link `back`. What it finds from here on is
  -- what was to be found.
  pub record Scanning (passes : ℕ → Bool) (head back now : ℤ) : Type 0 where
    pub stretch : Stretch n next previous end back now (walk n next n now)
    pub before : finish back (lead passes (walk n next n now)) ≡ finish end (lead passes (walk n next n head))
    pub after : behind passes (walk n next n now) ≡ behind passes (walk n next n head)

  module _ (passes : ℕ → Bool) (head : ℤ) where
    pub scan_begin : Chain n next previous head (walk n next n head) → Scanning passes head end head
    scan_begin c = record { stretch = c.whole; before = refl; after = refl }

    pub scan_step : {back now : ℤ} → Scanning passes head back now → target n now < n → passes (target n now) ≡ true
        → Scanning passes head now (next (target n now)) × (length (walk n next n (next (target n now))) < length (walk n next n now))
    scan_step {back} {now} s l p =
        let a = ahead back now s.stretch l in (
          record {
            stretch = rw a.then a.on;
            before = rw a.then (ap (λ (b : ℤ). finish b (lead passes a.tail)) a.link ∙ (rw (a.is, p) at s.before));
            after = rw a.then (rw (a.is, p) at s.after);
          },
          omega (arith, ap length a.then, ap length a.is),
        )

    pub scan_stop : {back now : ℤ} → Scanning passes head back now → target n now < n → passes (target n now) ≡ false → Gap passes (walk n next n head) back now
    scan_stop {back} {now} s l p =
        let a = ahead back now s.stretch l in
        record { before_is = rw (a.is, p) at s.before; after_is = a.link ∙ ap (start end) (rw (a.is, p) at s.after) }

    pub scan_end : {back now : ℤ} → Scanning passes head back now → n ≤ target n now → Gap passes (walk n next n head) back now
    scan_end {back} {now} s l =
        let e = nothing_left back now s.stretch l in
        record { before_is = rw e.0 at s.before; after_is = e.1 ∙ ap (start end) (rw e.0 at s.after) }
