-- Every list of calls has a run. Assumes nothing.
use mathlib.Core.Path.{◌≡◌, refl, ap, subst, ◌∙◌}
use mathlib.Core.List.{List, [], ◌∷◌}
use Prim.Native.Nat.{ℕ}
use Rattle.kernel.specs.Calls.{Call}
use Rattle.kernel.specs.Step.{step}
use Rattle.kernel.specs.Fresh.{fresh_state}
use Rattle.laws_runs.specs.Run.{trace}
use Rattle.laws_runs.proofs.Aside.{own_trace}
use Rattle.laws_demands.specs.Run.{Run, start, call}
use Rattle.laws_demands.specs.AsModel.{calls, AsModel}
use Rattle.laws_demands.specs.Every.{Played}
use Rattle.laws_demands.proofs.Functions.{promised}
use Rattle.laws_demands.proofs.Every.{every_call}
use Rattle.laws_demands.proofs.Model.{next, as_model}

module _ (m : List ℕ) where
  -- The calls of the model's trace are those that were made.
  calls_are : (cs : List Call) → calls (trace step m cs) ≡ cs
  unfolding trace
  calls_are [] = refl
  calls_are (c ∷ cs) = ap (λ (ds : List Call). c ∷ ds) (calls_are cs)

  -- **every_run**: every list of calls is run by the public functions, and its trace is the model's.
  pub every_run : (cs : List Call) → Played m cs
  unfolding trace
  every_run [] = record { state = fresh_state; memory = m; run = start refl }
  every_run (c ∷ cs) =
      let p = every_run cs in
      let g = every_call p.state p.memory c in
      let a = next (subst (AsModel m p.state p.memory) (own_trace m cs) (as_model p.run)) (promised g.made) in
      record {
        state = g.reply.state;
        memory = g.left;
        run = subst (Run m g.reply.state g.left) (a.trace_is ∙ ap (λ (ds : List Call). trace step m (c ∷ ds)) (calls_are cs)) (call p.run g.made);
      }
