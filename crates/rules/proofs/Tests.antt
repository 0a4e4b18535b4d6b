-- Laws of tests 10 to 12: with 12 answered by the slots, a step is the rule of its word's code. Assumes nothing.
use Prim.Native.Nat.{ℕ, ◌<◌, ◌≤◌}
use mathlib.Core.Path.{◌≡◌, refl, ◌∙◌}
use mathlib.Core.List.{List}
use lib.ListN.{length, get_or}
use lib.Dec.{ltb}
use borrow.Author.Tests.{le-leb, lt-leb}
use Rattle.basics.specs.Choice.{both}
use Rattle.basics.specs.Limits.{most_depth}
use Rattle.basics.specs.Word.{upper, lower}
use Rattle.table.specs.declared.entry.Entry.{Entry}
use Rattle.steps.specs.declared.goal.Goal.{Goal}
use Rattle.steps.specs.declared.opened.Opened.{Opened}
use Rattle.steps.specs.declared.opened.Opened.TheVariants as Opening
use Rattle.steps.specs.Obligation.{Obligation}
use Rattle.steps.specs.Step.{names, plain, unknown, rules, opens, step}
use Rattle.steps.specs.Figure1 as Figure1
use Rattle.steps.specs.Figure1.{same}
use Rattle.hypotheses.specs.Slots.{is_held, shown}
use Rattle.hypotheses.proofs.Shown.{shows_shown}
use Rattle.rules.specs.Tested.{tested, TestedIsApplied}

-- the obligation at a place of the walk
abbrev pub here : List ℕ → Goal → ℕ → Obligation
here slots g d = record { hypotheses = shown slots; goal = g; depth = d }

-- the rule of a code, with 12 answered by the slots
abbrev pub by_slots : List Entry → List ℕ → Goal → ℕ → ℕ → Opened
by_slots es slots g code n = tested (get_or (rules same es) code unknown) (both (ltb n (length es)) (is_held slots n)) n g

pub tested_is_applied : TestedIsApplied
tested_is_applied es (names rule) hs n g = refl
tested_is_applied es (plain rule) hs n g = refl
tested_is_applied es unknown hs n g = refl

module _ (es : List Entry) (slots : List ℕ) (g : Goal) (d w : ℕ) where
  -- At a depth above 512 a step is refused 10,
  pub too_deep : most_depth < d → Opening.Refused 10 ≡ Figure1.step es w (here slots g d)
  unfolding step
  too_deep l = rw (lt-leb d most_depth l)

  -- and at any other it is the rule of its word's code.
  pub step_is : d ≤ most_depth → {code n : ℕ} → code ≡ upper w → n ≡ lower w
      → by_slots es slots g code n ≡ Figure1.step es w (here slots g d)
  unfolding step opens
  step_is l k m =
      rw (le-leb d most_depth l, k, m, shows_shown slots (lower w))
      (tested_is_applied es (get_or (rules same es) (upper w) unknown) (shown slots) (lower w) g)

  -- So what the rule of the code opens, the step opens.
  pub step_opens : {code n : ℕ} {r : Opened} → d ≤ most_depth → code ≡ upper w → n ≡ lower w
      → r ≡ by_slots es slots g code n
      → r ≡ Figure1.step es w (here slots g d)
  step_opens l k m e = e ∙ step_is l k m
