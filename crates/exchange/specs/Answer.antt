-- What the exchange check answers, for every file of any bytes and length. "Answer: equal, or a refusal of the list
-- above without 6 and 8" (01), test by test. `speaks` compares principals, for code 11: 01 has "the same K"
-- (Figure1.antt). Assumes nothing.
use Rattle.std.specs.Prelude.{ℕ, Bool, List, [], ◌∷◌, ◌++◌}
use Rattle.basics.specs.Place.{Place}
use Rattle.basics.specs.Limits.{most_depth}
use Rattle.basics.specs.Refusals.{Test, test, first_refusal, unless_refused}
use Rattle.file.specs.Layout.{layout_tests}
use Rattle.file.specs.Outside.{outside}
use Rattle.table.specs.Tests.{entry_tests}
use Rattle.steps.specs.Verdict.{WalkVerdict}
use Rattle.steps.specs.Obligation.{Obligation, obligations}
use Rattle.steps.specs.Run.{run, walked}
use Rattle.exchange.specs.Verdict.{ExchangeVerdict, Equal, Refused}
use Rattle.exchange.specs.Layout.{exchange_layout, formulas, heads, seconds, first_list, second_list, steps, table}

-- "7. A statement's number is F or more (place: the first such position)." "Places for 7 run through both lists".
abbrev pub statement_outside : List ℕ → Place
statement_outside file = outside (formulas file) (first_list file ++ second_list file)

-- "The words hold a proof of each statement of the second list from the first, in order, then of each of the first from
-- the second, one for every position"; "depth starts at 1 in each proof", as `obligation` gives it.
abbrev pub obligations_of : List ℕ → List Obligation
obligations_of file = obligations (first_list file) (second_list file) ++ obligations (second_list file) (first_list file)

module _ (speaks : ℕ → ℕ → Bool) where
  -- 9 to 15: the machine's verdict on them. "Each proof begins at the word after the last one"; places run "through all
  -- step words".
  abbrev pub step_verdict : List ℕ → WalkVerdict
  step_verdict file = run speaks most_depth (table file) (steps file) (obligations_of file)

  -- 1 to 15 without 6 and 8, in 01's order: 1 to 3 by the layout (file/specs/Layout.antt), 4 and 5 of the table
  -- (table/specs/Tests.antt), and the walk as the last.
  abbrev pub tests : List ℕ → List Test
  tests file =
      layout_tests exchange_layout file
      ++ (entry_tests (heads file) (seconds file)
      ++ (test 7 (statement_outside file)
      ∷ walked (step_verdict file)
      ∷ []))

  unfoldable pub exchange_answer : List ℕ → ExchangeVerdict
  exchange_answer file = unless_refused (first_refusal (tests file)) Equal
