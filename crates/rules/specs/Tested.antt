-- Tests 11 to 14 where it is known whether the named formula is a hypothesis: `applied` of the crate `steps`, for
-- callers that answer 12 in their own way. Assumes nothing.
use Rattle.std.specs.Prelude.{ℕ, Bool, ◌≡◌, List, eqb, ltb, length}
use Rattle.basics.specs.Choice.{pick, both}
use Rattle.basics.specs.Membership.{holds}
use Rattle.table.specs.declared.entry.Entry.{Entry}
use Rattle.steps.specs.declared.goal.Goal.{Goal}
use Rattle.steps.specs.declared.opened.Opened.{Opened}
use Rattle.steps.specs.declared.opened.Opened.TheVariants.{Refused}
use Rattle.steps.specs.Figure1.{same}
use Rattle.steps.specs.Step.{Rule, names, plain, unknown, applied}

abbrev pub tested : Rule → Bool → ℕ → Goal → Opened
tested (names rule) held n g = pick held (rule n g) (Refused 12)
tested (plain rule) held n g = pick (eqb n 0) (rule g) (Refused 11)
tested unknown held n g = Refused 11

-- Where 12 is answered as 01 does, it is what a step applies. Proved in proofs/Tests.antt.
abbrev pub TestedIsApplied : Type 0
TestedIsApplied =
    (es : List Entry) (rule : Rule) (hs : List ℕ) (n : ℕ) (g : Goal)
    → tested rule (both (ltb n (length es)) (holds hs n)) n g ≡ applied same es rule hs n g
