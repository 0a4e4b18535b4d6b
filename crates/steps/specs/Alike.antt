-- "Hypotheses are truths and form a set" (01): the machine asks of the hypotheses only which numbers are among them, so
-- obligations that differ in nothing else get one verdict. And what a refusal of the machine can be. Proved in
-- proofs/Alike.antt. Assumes nothing.
use Rattle.std.specs.Prelude.{ℕ, ◌≤◌, Bool, ◌≡◌, ◌↔◌, List, [], ◌∷◌, length}
use Rattle.basics.specs.Membership.{◌∈◌}
use Rattle.table.specs.declared.entry.Entry.{Entry}
use Rattle.steps.specs.Verdict.{Refused}
use Rattle.steps.specs.Obligation.{Obligation}
use Rattle.steps.specs.Run.{run}

-- the same goal at the same depth, from the same set of numbers
pub record Alike (o o' : Obligation) : Type 0 where
  pub same_goal : o.goal ≡ o'.goal
  pub same_depth : o.depth ≡ o'.depth
  pub same_set : (n : ℕ) → n ∈ o.hypotheses ↔ n ∈ o'.hypotheses

module _ (speaks : ℕ → ℕ → Bool) (limit : ℕ) (es : List Entry) where
  abbrev pub HypothesesAreASet : Type 0
  HypothesesAreASet =
      (o o' : Obligation) → Alike o o'
      → (ws : List ℕ) → run speaks limit es ws (o ∷ []) ≡ run speaks limit es ws (o' ∷ [])

  -- The machine refuses by 9 to 15 and no other number, at one of its words or after the last.
  abbrev pub RefusedInRange : Type 0
  RefusedInRange =
      (ws : List ℕ) (os : List Obligation) (number p : ℕ)
      → run speaks limit es ws os ≡ Refused number p → (9 ≤ number) × (number ≤ 15) × (p ≤ length ws)
