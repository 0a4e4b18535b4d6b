-- `check_goal` meets its contract: the slots hold the statements, so what the walk answers is the machine's verdict.
-- Assumes nothing.
use Rattle.std.proofs.Common.{◌∙◌}
use Rattle.walk.proofs.Held.{goal_run}
use Rattle.walk.proofs.check.check_goal.Goals as goal

pub returns-in-Done-clause-value : goal.returns-in-Done-clause-value
returns-in-Done-clause-value c =
    c.in-Done.ensures.result_value ∙ goal_run c.args.steps.now c.args.goal c.requires c.goal_formula.ensures

pub returns-in-Refused-clause-value : goal.returns-in-Refused-clause-value
returns-in-Refused-clause-value c =
    c.in-Refused.ensures.result_value ∙ goal_run c.args.steps.now c.args.goal c.requires c.goal_formula.ensures
