-- 01's table of rules, row by row, as the machine goes by it. `entry_at es` gives the entry of a number, n is the named
-- formula's number, and g the goal. Above each rule stands its row: code, name, goal below, named hypothesis, premises
-- in order. Assumes nothing.
--
-- `speaks` compares principals: 01 has "the same K" (Figure1.antt).
use Rattle.std.specs.Prelude.{ℕ, Bool, List, eqb}
use Rattle.basics.specs.Choice.{pick}
use Rattle.table.specs.declared.entry.Principal.{Principal}
use Rattle.table.specs.declared.entry.Entry.{Entry}
use Rattle.table.specs.Tests.{entry_at}
use Rattle.steps.specs.declared.goal.Goal.{Goal}
use Rattle.steps.specs.declared.goal.Goal.TheVariants.{True, Affirms}
use Rattle.steps.specs.declared.opened.Opened.{Opened}
use Rattle.steps.specs.declared.opened.Opened.TheVariants.{Refused, Closed, One, Two}
use Rattle.steps.specs.Obligation.{alone, adding, adding_both}
use Rattle.steps.specs.Needs.{truth, affirmation, is_atom, is_false, is_implies, is_and, is_or, is_says}

-- "14. Code 11 names a says-formula of K and the goal isn't an affirmation by K."
abbrev pub served_by : (ℕ → ℕ → Bool) → Principal → Goal → Opened → Opened
served_by speaks k (True f) next = Refused 14
served_by speaks k (Affirms l f) next = pick (speaks k.0 l.0) next (Refused 14)

module _ (speaks : ℕ → ℕ → Bool) (es : List Entry) where
  -- 0 | init | an atom's truth | that atom | none
  abbrev pub init : ℕ → Goal → Opened
  init n g = truth g (λ f. is_atom (entry_at es f.0) (pick (eqb n f.0) Closed (Refused 13)))

  -- 1 | affirm | K affirms A | none | A is true
  abbrev pub affirm : Goal → Opened
  affirm g = affirmation g (λ k a. One (alone (True a)))

  -- 2 | implies right | A implies B | none | B, with A added
  abbrev pub implies_right : Goal → Opened
  implies_right g = truth g (λ f. is_implies (entry_at es f.0) (λ a b. One (adding (True b) a)))

  -- 3 | implies left | any | A implies B | A is true; the goal, with B added
  abbrev pub implies_left : ℕ → Goal → Opened
  implies_left n g = is_implies (entry_at es n) (λ a b. Two (alone (True a)) (adding g b))

  -- 4 | false left | any | false | none
  abbrev pub false_left : ℕ → Goal → Opened
  false_left n g = is_false (entry_at es n) Closed

  -- 5 | and right | A and B | none | A; B
  abbrev pub and_right : Goal → Opened
  and_right g = truth g (λ f. is_and (entry_at es f.0) (λ a b. Two (alone (True a)) (alone (True b))))

  -- 6 | and left | any | A and B | the goal, with A and B added
  abbrev pub and_left : ℕ → Goal → Opened
  and_left n g = is_and (entry_at es n) (λ a b. One (adding_both g a b))

  -- 7 | or right first | A or B | none | A
  abbrev pub or_right_first : Goal → Opened
  or_right_first g = truth g (λ f. is_or (entry_at es f.0) (λ a b. One (alone (True a))))

  -- 8 | or right second | A or B | none | B
  abbrev pub or_right_second : Goal → Opened
  or_right_second g = truth g (λ f. is_or (entry_at es f.0) (λ a b. One (alone (True b))))

  -- 9 | or left | any | A or B | the goal with A added; the goal with B added
  abbrev pub or_left : ℕ → Goal → Opened
  or_left n g = is_or (entry_at es n) (λ a b. Two (adding g a) (adding g b))

  -- 10 | says right | K says A | none | K affirms A
  abbrev pub says_right : Goal → Opened
  says_right g = truth g (λ f. is_says (entry_at es f.0) (λ k a. One (alone (Affirms k a))))

  -- 11 | says left | K affirms C | K says A, the same K | the same goal, with A added
  abbrev pub says_left : ℕ → Goal → Opened
  says_left n g = is_says (entry_at es n) (λ k a. served_by speaks k g (One (adding g a)))
