-- Test 4 by numbers: what the operands of each kind are below in an entry that is well-formed at number i. Only private
-- functions of src/order.rt speak of this; what test 4 answers is `wrong_entry` of `table`. Assumes nothing.
use Rattle.std.specs.Prelude.{ℕ, eqb, ltb}
use Rattle.basics.specs.Choice.{pick}
use Rattle.basics.specs.Limits.{most_atoms, most_principals}

-- An atom's and a principal's number is any, false has 0, and a formula's number is lower than i.
abbrev pub first_bound : ℕ → ℕ → ℕ
first_bound kind i = pick (eqb kind 0) most_atoms (pick (eqb kind 1) 1 (pick (ltb kind 5) i most_principals))

-- An atom and false have 0, and a kind of 6 or more has no second that is allowed.
abbrev pub second_bound : ℕ → ℕ → ℕ
second_bound kind i = pick (ltb kind 2) 1 (pick (ltb kind 6) i 0)
