-- With test 12 answered, the rule of a code opens as many premises as its row has. Assumes nothing.
use Prim.Native.Nat.{ℕ}
use mathlib.Core.Bool.{Bool}
use mathlib.Core.List.{List}
use lib.ListN.{get_or}
use lib.Dec.{eqb}
use Rattle.basics.proofs.Choice.{pick_cases}
use Rattle.table.specs.declared.entry.Entry.{Entry}
use Rattle.steps.specs.declared.goal.Goal.{Goal}
use Rattle.steps.specs.Step.{Rule, names, plain, unknown, rules}
use Rattle.steps.specs.Figure1.{same}
use Rattle.steps.proofs.Cases.{OfPremises}
use Rattle.steps.proofs.PremiseCounts.{Counted, Opens, code_counts}
use Rattle.rules.specs.Tested.{tested}

tested_rule : (c : ℕ) (rule : Rule) → Opens c rule → (held : Bool) (n : ℕ) (g : Goal)
    → OfPremises (Counted c) (tested rule held n g)
tested_rule c (names rule) h held n g = pick_cases (OfPremises (Counted c)) held (λ t. h n g) (λ t. tt)
tested_rule c (plain rule) h held n g = pick_cases (OfPremises (Counted c)) (eqb n 0) (λ t. h g) (λ t. tt)
tested_rule c unknown h held n g = tt

pub tested_counts : (es : List Entry) (c : ℕ) (held : Bool) (n : ℕ) (g : Goal)
    → OfPremises (Counted c) (tested (get_or (rules same es) c unknown) held n g)
tested_counts es c held n g = tested_rule c (get_or (rules same es) c unknown) (code_counts same es c) held n g
