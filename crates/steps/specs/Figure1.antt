-- The machine of document 01 itself: "the same K" for code 11, and depth at most 512. Code and samples cite it from
-- here, and what stands above fixes its own definitions with `same`. Proved in proofs/Figure1.antt. Assumes nothing.
use Rattle.std.specs.Prelude.{ℕ, Bool, List, eqb}
use Rattle.basics.specs.Limits.{most_depth}
use Rattle.logic.specs.Figure1.{Same}
use Rattle.table.specs.declared.entry.Entry.{Entry}
use Rattle.steps.specs.declared.opened.Opened.{Opened}
use Rattle.steps.specs.Verdict.{WalkVerdict}
use Rattle.steps.specs.Obligation.{Obligation}
use Rattle.steps.specs.Step as Every
use Rattle.steps.specs.Run as AnyRun
use Rattle.steps.specs.Stops as AnyStops
use Rattle.steps.specs.Alike as AnyAlike
use Rattle.steps.specs.Runs as AnyRuns
use Rattle.steps.specs.Trace as AnyTrace
use Rattle.steps.specs.Trace.{Line}
use Rattle.steps.specs.PremiseCounts as AnyCounts
use Rattle.steps.specs.ByWord as AnyByWord
use Rattle.steps.specs.Naming as AnyNaming
use Rattle.steps.specs.OverTable as OverTable
use Rattle.steps.specs.Answer as AnyAnswer

-- "the same K"
abbrev pub same : ℕ → ℕ → Bool
same K L = eqb K L

-- ---- the machine

abbrev pub step : List Entry → ℕ → Obligation → Opened
step es w o = Every.step same es most_depth w o

abbrev pub walk : List Entry → List ℕ → ℕ → List Obligation → WalkVerdict
walk es ws p os = AnyRun.walk same most_depth es ws p os

abbrev pub run : List Entry → List ℕ → List Obligation → WalkVerdict
run es ws os = AnyRun.run same most_depth es ws os

abbrev pub trace : List Entry → List ℕ → List Obligation → List Line
trace es ws os = AnyTrace.trace same most_depth es ws os

-- what the check of proofs answers
abbrev pub proof_answer : List ℕ → List ℕ → List ℕ → ℕ → List ℕ → WalkVerdict
proof_answer heads seconds statements goal steps = AnyAnswer.proof_answer same heads seconds statements goal steps

abbrev pub proofs_answer : List ℕ → List ℕ → List ℕ → List ℕ → List ℕ → WalkVerdict
proofs_answer heads seconds statements goals steps = AnyAnswer.proofs_answer same heads seconds statements goals steps

-- ---- what is promised of it

-- "Hypotheses are truths and form a set": obligations that are alike get one verdict.
abbrev pub HypothesesAreASet : Type 0
HypothesesAreASet = (es : List Entry) → AnyAlike.HypothesesAreASet same most_depth es

-- A run is refused by 9 to 15, at one of its words or after the last,
abbrev pub RefusedInRange : Type 0
RefusedInRange = (es : List Entry) → AnyAlike.RefusedInRange same most_depth es

-- and exactly where it stops.
abbrev pub RefusedWhere : Type 0
RefusedWhere = (es : List Entry) → AnyStops.RefusedWhere same most_depth es

-- A run that closes, whatever the limit, has used all its words,
abbrev pub ClosedUsesAll : Type 0
ClosedUsesAll = AnyRuns.ClosedUsesAll same

-- and its trace has one line for each: line i is the code of word i, what it names, and the goal that was open there.
abbrev pub LinePerWord : Type 0
LinePerWord = AnyTrace.LinePerWord same

abbrev pub LinesByWord : Type 0
LinesByWord = AnyByWord.LinesByWord same

-- The lines name what the words' numbers spell.
abbrev pub NamedOnTrace : Type 0
NamedOnTrace = AnyNaming.NamedOnTrace same

-- Over a table that passes 2, 4 and 5, for obligations whose numbers are below F (6 and 7), the machine closes on
-- exactly the words of derivations, and the trace is their lines.
abbrev pub RunsAreDerivations : Type 0
RunsAreDerivations = OverTable.RunsAreDerivations same Same

abbrev pub TraceIsDerivations : Type 0
TraceIsDerivations = OverTable.TraceIsDerivations same Same

-- So closed says that the words used are those of derivations.
abbrev pub ClosedAreDerivations : Type 0
ClosedAreDerivations = AnyAnswer.ClosedAreDerivations same Same

abbrev pub ClosedIsDerivation : Type 0
ClosedIsDerivation = AnyAnswer.ClosedIsDerivation same Same

-- There is a count of premises for each rule, a step opens as many as the row of its code has, and a derivation has as
-- many immediate subderivations.
abbrev pub CountPerRule : Type 0
CountPerRule = AnyCounts.CountPerRule same

abbrev pub PremisesCounted : Type 0
PremisesCounted = AnyCounts.PremisesCounted same

abbrev pub PremisesOfDerivation : Type 0
PremisesOfDerivation = AnyCounts.PremisesOfDerivation Same
