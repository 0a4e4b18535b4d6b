-- Runs are derivations: the theorem behind demands 2 and 3, for a test on principals and the relation that it decides,
-- and for any limit on depth. Proved in proofs/Runs.antt. Assumes nothing.
use Rattle.std.specs.Prelude.{ℕ, ◌≤◌, Bool, ◌≡◌, ◌↔◌, List, length}
use Rattle.basics.specs.Membership.{◌∈◌}
use Rattle.basics.specs.Limits.{most_formulas}
use Rattle.logic.specs.Principals.{Relation}
use Rattle.table.specs.declared.entry.Entry.{Entry}
use Rattle.table.specs.Laws.{Ordered, Distinct}
use Rattle.steps.specs.Verdict.{Closed}
use Rattle.steps.specs.Obligation.{Obligation}
use Rattle.steps.specs.Run.{run}
use Rattle.steps.specs.Carried.{Carried, InTable}

-- The words are used up and nothing is left to prove.
abbrev pub Closes : (ℕ → ℕ → Bool) → ℕ → List Entry → List Obligation → List ℕ → Type 0
Closes speaks limit es os ws = run speaks limit es ws os ≡ Closed (length ws)

-- A run that closes has used all its words: what remains is 15.
abbrev pub ClosedUsesAll : (ℕ → ℕ → Bool) → Type 0
ClosedUsesAll speaks =
    (limit : ℕ) (es : List Entry) (os : List Obligation) (ws : List ℕ) (q : ℕ) → run speaks limit es ws os ≡ Closed q → q ≡ length ws

abbrev pub RunsAreDerivations : (ℕ → ℕ → Bool) → Relation → Type 0
RunsAreDerivations speaks R =
    (limit : ℕ) (es : List Entry) → length es ≤ most_formulas → Ordered es → Distinct es
    → (os : List Obligation) → ((o : Obligation) → o ∈ os → InTable es o)
    → (ws : List ℕ) → Closes speaks limit es os ws ↔ Carried R limit es os ws
