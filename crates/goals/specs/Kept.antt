-- A goal kept in two words: the number of a formula and 0 for its truth; or the number of K says A and any word but 0
-- for the affirmation of A by K. Assumes nothing.
use Rattle.std.specs.Prelude.{ℕ, List, [], ◌∷◌, get_or, eqb}
use Rattle.basics.specs.Choice.{pick}
use Rattle.basics.specs.Word.{upper, lower}
use Rattle.table.specs.declared.entry.Entry.{Entry}
use Rattle.table.specs.declared.entry.Entry.TheVariants.{Atom, False, Implies, And, Or, Says, IllFormed}
use Rattle.table.specs.Entry.{formula}
use Rattle.table.specs.Tests.{entry_at}
use Rattle.steps.specs.declared.goal.Goal.{Goal}
use Rattle.steps.specs.declared.goal.Goal.TheVariants.{True, Affirms}
use Rattle.steps.specs.Step.{rules, unknown}
use Rattle.steps.specs.Carried.{judgment}
use Rattle.steps.specs.Trace.{Line, line, named_by}
use Rattle.steps.specs.Figure1.{same}

-- the affirmation that a says-formula stands for; of another entry, what is given
abbrev pub affirmed_by : Entry → Goal → Goal
affirmed_by (Says k a) g = Affirms k a
affirmed_by (Atom a) g = g
affirmed_by False g = g
affirmed_by (Implies a b) g = g
affirmed_by (And a b) g = g
affirmed_by (Or a b) g = g
affirmed_by IllFormed g = g

abbrev pub goal_at : List Entry → ℕ → ℕ → Goal
goal_at es n affirms = pick (eqb affirms 0) (True (formula n)) (affirmed_by (entry_at es n) (True (formula n)))

-- the line of a step word at a goal: `line_of` of the crate `steps`, which needs nothing of an obligation but its goal
abbrev pub line_at : List Entry → ℕ → Goal → Line
line_at es w g = line (upper w) (named_by es (get_or (rules same es) (upper w) unknown) (lower w)) (judgment es g)

-- the lines of step words at goals that are kept so, one for each as far as all three lists go
unfoldable pub lines_at : List Entry → List ℕ → List ℕ → List ℕ → List Line
lines_at es [] ns bs = []
lines_at es (w ∷ ws) [] bs = []
lines_at es (w ∷ ws) (n ∷ ns) [] = []
lines_at es (w ∷ ws) (n ∷ ns) (b ∷ bs) = line_at es w (goal_at es n b) ∷ lines_at es ws ns bs
