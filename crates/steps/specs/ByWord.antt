-- Each line of a trace by its word. Proved in proofs/ByWord.antt. Assumes nothing.
use Rattle.std.specs.Prelude.{ℕ, ◌<◌, Bool, ◌≡◌, List, ◌∷◌, length, get_or, take}
use Rattle.std.proofs.Math.Option.{some}
use Rattle.std.proofs.Math.ListN.{get_elem?}
use Rattle.table.specs.declared.entry.Entry.{Entry}
use Rattle.steps.specs.Obligation.{Obligation}
use Rattle.steps.specs.Runs.{Closes}
use Rattle.steps.specs.Stops.{LeftToProve}
use Rattle.steps.specs.Trace.{line_of, trace}

-- On a run that closes, line i of the trace is the code of word i, what it names, and the goal that was open there.
abbrev pub LinesByWord : (ℕ → ℕ → Bool) → Type 0
LinesByWord speaks =
    (limit : ℕ) (es : List Entry) (os : List Obligation) (ws : List ℕ)
    → Closes speaks limit es os ws → (i : ℕ) → i < length ws
    → (o : Obligation) × (rest : List Obligation)
    × LeftToProve speaks limit es (take i ws) os (o ∷ rest)
    × (get_elem? (trace speaks limit es ws os) i ≡ some (line_of speaks es (get_or ws i 0) o))
