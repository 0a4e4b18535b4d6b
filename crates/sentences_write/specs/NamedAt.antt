-- The text of what a rule names. Assumes nothing.
use Rattle.std.specs.Prelude.{ℕ, List, get_or}
use Rattle.table.specs.declared.entry.Entry.{Entry}
use Rattle.steps.specs.Step.{rules, unknown}
use Rattle.steps.specs.Trace.{named_by}
use Rattle.steps.specs.Figure1.{same}
use Rattle.sentences.specs.Sentences.{named_text}

-- the text of what the rule of a code names by a number
abbrev pub named_at : List Entry → ℕ → ℕ → List ℕ
named_at es code n = named_text (named_by es (get_or (rules same es) code unknown) n)
