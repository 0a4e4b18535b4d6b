-- The promises for Figure 1 (specs/Figure1.antt): those for every test on principals, at "the same K". Assumes nothing.
use Rattle.logic.specs.Figure1.{Same}
use Rattle.steps.specs.Figure1.{same}
use Rattle.steps.proofs.Figure1.{same_lawful}
use Rattle.exchange.specs.Figure1.{ForceByStatements, GoalKept, EqualExactly, EqualOnlyInForce, RefusedExactly, NeverSixOrEight, KeepsExactly, EmptyListsEqual, ProvedAtEachPosition, AnswersSmall, LongerFile}
use Rattle.exchange.proofs.Force as Force
use Rattle.exchange.proofs.Equal as Equal
use Rattle.exchange.proofs.Positions as Positions
use Rattle.exchange.proofs.Reasons as Reasons
use Rattle.exchange.proofs.Kept as Kept
use Rattle.exchange.proofs.NeverSixOrEight as Never
use Rattle.exchange.proofs.Small as Small
use Rattle.exchange.proofs.Longer as Longer

pub force_by_statements : ForceByStatements
force_by_statements = Force.force_by_statements Same same_lawful.reflexive same_lawful.transitive

pub goal_kept_lem : GoalKept
goal_kept_lem = Force.goal_kept_lem Same same_lawful.reflexive same_lawful.transitive

pub equal_exactly : EqualExactly
equal_exactly = Equal.equal_exactly same Same same_lawful.decides

pub equal_only_in_force : EqualOnlyInForce
equal_only_in_force = Equal.equal_only_in_force same Same same_lawful

pub refused_exactly : RefusedExactly
refused_exactly = Reasons.refused_exactly same

pub never_six_or_eight : NeverSixOrEight
never_six_or_eight = Never.never_six_or_eight same

pub keeps_exactly : KeepsExactly
keeps_exactly = Kept.keeps_exactly same

pub empty_lists_equal : EmptyListsEqual
empty_lists_equal = Positions.empty_lists_equal same

pub proved_at_each_position : ProvedAtEachPosition
proved_at_each_position = Positions.proved_at_each_position same

pub answers_small : AnswersSmall
answers_small = Small.answers_small same

pub longer_file : LongerFile
longer_file = Longer.longer_file same
