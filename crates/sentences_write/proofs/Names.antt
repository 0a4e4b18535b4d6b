-- What the function on rules' names asks for. Assumes nothing.
use Prim.Native.Nat.{ℕ, ◌≤◌}
use mathlib.Core.Path.{◌≡◌, ap}
use mathlib.Core.List.{[]}
use lib.ListN.{get_or-eq_default}
use Rattle.text.specs.Ascii.{ascii}
use Rattle.sentences.specs.Sentences.{rule_names, rule_name}

-- from 12 on a code has no name
pub no_name : (code : ℕ) → 12 ≤ code → rule_name code ≡ []
unfolding ascii rule_name
no_name code past = ap ascii (get_or-eq_default rule_names "" past)
