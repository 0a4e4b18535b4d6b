-- From an entry to a part, from a part to an operand, and from an operand to an entry of a lower number.
use Rattle.std.proofs.Common.{◌+◌, ◌*◌}
use Rattle.formula_write.proofs.formula.+formula.Given as goal

abbrev pub decreases-fill_formula : goal.decreases-fill_formula
decreases-fill_formula l = 3 * l.n + 2

abbrev pub decreases-fill_left : goal.decreases-fill_left
decreases-fill_left l = 3 * l.n + 1

abbrev pub decreases-fill_operand : goal.decreases-fill_operand
decreases-fill_operand l = 3 * l.n

abbrev pub decreases-fill_right : goal.decreases-fill_right
decreases-fill_right l = 3 * l.n + 1
