-- Runs are derivations, both directions (specs/Runs.antt). Assumes nothing.
use Prim.Native.Nat.{ℕ}
use mathlib.Core.Bool.{Bool}
use Rattle.logic.specs.Principals.{Relation, Decides}
use Rattle.steps.specs.Runs.{RunsAreDerivations}
use Rattle.steps.proofs.Sound.{sound}
use Rattle.steps.proofs.Complete.{complete}

pub runs_are_derivations : (speaks : ℕ → ℕ → Bool) (R : Relation) → Decides speaks R → RunsAreDerivations speaks R
runs_are_derivations speaks R decides limit es few ordered distinct os inside ws =
    (sound speaks R decides limit es ordered distinct os ws, complete speaks R decides limit es few ordered distinct os inside ws)
