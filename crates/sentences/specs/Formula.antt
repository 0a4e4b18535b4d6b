-- The text of a proposition and of a goal. "Atom 0 is a0, principal 7 is p7 and false is false; every compound formula
-- stands in round brackets with its kind's word (implies, and, or, says) in the middle, as (p7 says a0)." (02, job 2)
-- Assumes nothing.
use Rattle.std.specs.Prelude.{ℕ, List, ◌++◌}
use Prim.Native.String.{String}
use Rattle.text.specs.Ascii.{ascii}
use Rattle.text.specs.Decimal.{decimal}
use Rattle.logic.specs.Proposition.{Proposition, atom, false, ◌implies◌, ◌and◌, ◌or◌, ◌says◌}
use Rattle.logic.specs.Judgment.{Judgment, truth, ◌affirms◌}

-- "principal 7 is p7"
abbrev pub principal_text : ℕ → List ℕ
principal_text K = ascii "p" ++ decimal K

-- "in round brackets with its kind's word .. in the middle", a blank on either side of it
abbrev pub bracketed : List ℕ → String → List ℕ → List ℕ
bracketed left word right = ascii "(" ++ (left ++ (ascii word ++ (right ++ ascii ")")))

unfoldable pub proposition_text : Proposition → List ℕ
proposition_text (atom a) = ascii "a" ++ decimal a
proposition_text false = ascii "false"
proposition_text (A implies B) = bracketed (proposition_text A) " implies " (proposition_text B)
proposition_text (A and B) = bracketed (proposition_text A) " and " (proposition_text B)
proposition_text (A or B) = bracketed (proposition_text A) " or " (proposition_text B)
proposition_text (K says A) = bracketed (principal_text K) " says " (proposition_text A)

-- A truth's text is its proposition's. An affirmation is no formula, so it has no brackets: "p7 affirms a0".
unfoldable pub goal_text : Judgment → List ℕ
goal_text (truth A) = proposition_text A
goal_text (K affirms A) = principal_text K ++ (ascii " affirms " ++ proposition_text A)
