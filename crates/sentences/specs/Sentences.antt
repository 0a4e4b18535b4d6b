-- "One line a step: the step number, the rule's name, the named formula if any, the word for, and the goal .. each
-- ended by a line feed." (02, job 2) The lines are those of a trace (steps/specs/Trace.antt): a code, the proposition
-- that it names, if any, and the goal. Assumes nothing.
use Rattle.std.specs.Prelude.{ℕ, suc, List, [], ◌∷◌, ◌++◌, get_or}
use Prim.Native.String.{String}
use Rattle.std.proofs.Math.Option.{Option, none, some}
use Rattle.text.specs.Ascii.{ascii}
use Rattle.text.specs.Decimal.{decimal}
use Rattle.logic.specs.Proposition.{Proposition}
use Rattle.steps.specs.Trace.{Line}
use Rattle.sentences.specs.Formula.{proposition_text, goal_text}

-- the names of 01's table, in the order of the codes
abbrev pub rule_names : List String
rule_names =
    "init"
    ∷ "affirm"
    ∷ "implies right"
    ∷ "implies left"
    ∷ "false left"
    ∷ "and right"
    ∷ "and left"
    ∷ "or right first"
    ∷ "or right second"
    ∷ "or left"
    ∷ "says right"
    ∷ "says left"
    ∷ []

-- "the rule's name"; a code of 12 or more has none
unfoldable pub rule_name : ℕ → List ℕ
rule_name code = ascii (get_or rule_names code "")

-- "the named formula if any", after a blank
unfoldable pub named_text : Option Proposition → List ℕ
named_text none = []
named_text (some A) = ascii " " ++ proposition_text A

-- the line of step i, with a blank between its parts
unfoldable pub line_text : ℕ → Line → List ℕ
line_text i l =
    decimal i
    ++ (ascii " "
    ++ (rule_name l.code
    ++ (named_text l.named
    ++ (ascii " for "
    ++ (goal_text l.goal
    ++ ascii "\n")))))

-- the lines of the steps from i on
unfoldable pub sentences_from : ℕ → List Line → List ℕ
sentences_from i [] = []
sentences_from i (l ∷ ls) = line_text i l ++ sentences_from (suc i) ls

-- Steps are numbered from 0.
abbrev pub sentences : List Line → List ℕ
sentences ls = sentences_from 0 ls
