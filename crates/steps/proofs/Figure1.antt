-- "The same K" is equality, which is reflexive and transitive; so the promises for every test on principals hold for
-- the machine of document 01 (specs/Figure1.antt). Assumes nothing.
use mathlib.Core.Path.{refl, ◌∙◌}
use borrow.Author.Tests.{eq-eqb, eqb-true}
use Rattle.basics.specs.Limits.{most_depth}
use Rattle.logic.specs.Principals.{Decides, Lawful}
use Rattle.logic.specs.Figure1.{Same}
use Rattle.steps.specs.Figure1.{same, HypothesesAreASet, RefusedInRange, RefusedWhere, ClosedUsesAll, LinePerWord, LinesByWord, NamedOnTrace, RunsAreDerivations, TraceIsDerivations, ClosedAreDerivations, ClosedIsDerivation, CountPerRule, PremisesCounted, PremisesOfDerivation}
use Rattle.steps.proofs.Closed as Closed
use Rattle.steps.proofs.Alike as Alike
use Rattle.steps.proofs.Stops as Stops
use Rattle.steps.proofs.Trace as Trace
use Rattle.steps.proofs.PremiseCounts as Counts
use Rattle.steps.proofs.ByWord as ByWord
use Rattle.steps.proofs.Naming as Naming
use Rattle.steps.proofs.OverTable as OverTable
use Rattle.steps.proofs.Answer as Answer

same_decides : Decides same Same
same_decides K L = (eqb-true K L, eq-eqb K L)

pub same_lawful : Lawful same Same
same_lawful = record { decides = same_decides; reflexive = λ K. refl; transitive = λ K L M p q. p ∙ q }

pub hypotheses_are_a_set : HypothesesAreASet
hypotheses_are_a_set = Alike.hypotheses_are_a_set same most_depth

pub refused_in_range : RefusedInRange
refused_in_range = Alike.refused_in_range same most_depth

pub refused_where : RefusedWhere
refused_where = Stops.refused_where same most_depth

pub closed_uses_all : ClosedUsesAll
closed_uses_all = Closed.closed_uses_all same

pub line_per_word : LinePerWord
line_per_word = Trace.line_per_word same

pub lines_by_word : LinesByWord
lines_by_word = ByWord.lines_by_word same

pub named_on_trace : NamedOnTrace
named_on_trace = Naming.named_on_trace same

pub runs_are_derivations : RunsAreDerivations
runs_are_derivations = OverTable.runs_are_derivations same Same same_decides

pub trace_is_derivations : TraceIsDerivations
trace_is_derivations = OverTable.trace_is_derivations same Same same_decides

pub closed_are_derivations : ClosedAreDerivations
closed_are_derivations = Answer.closed_are_derivations same Same same_decides

pub closed_is_derivation : ClosedIsDerivation
closed_is_derivation = Answer.closed_is_derivation same Same same_decides

pub count_per_rule : CountPerRule
count_per_rule = Counts.count_per_rule same

pub premises_counted : PremisesCounted
premises_counted = Counts.premises_counted same

pub premises_of_derivation : PremisesOfDerivation
premises_of_derivation = Counts.premises_of_derivation Same
