-- The machine: step words against what is still to be proved, the next obligation first. Assumes nothing.
use Rattle.std.specs.Prelude.{ℕ, suc, Bool, List, [], ◌∷◌, ◌++◌, map, length, eqb, Err}
use Rattle.basics.specs.Place.{At, Nowhere}
use Rattle.basics.specs.Choice.{pick}
use Rattle.basics.specs.Refusals.{Test, test}
use Rattle.table.specs.declared.entry.Entry.{Entry}
use Rattle.steps.specs.declared.opened.Premise.{Premise}
use Rattle.steps.specs.declared.opened.Opened as O
use Rattle.steps.specs.declared.opened.Opened.TheVariants as Opening
use Rattle.steps.specs.Verdict.{WalkVerdict, Closed, Refused}
use Rattle.steps.specs.Obligation.{Obligation, under}
use Rattle.steps.specs.Step.{step}

-- What follows a step: on its refusal, or with its premises.
abbrev pub after : {A : Type 0} → O.Opened → (ℕ → A) → (List Premise → A) → A
after (Opening.Refused number) refused next = refused number
after Opening.Closed refused next = next []
after (Opening.One a) refused next = next (a ∷ [])
after (Opening.Two a b) refused next = next (a ∷ b ∷ [])

-- "15. The proof is closed and words remain (place: the first of them)": closed at p, of n words
abbrev pub all_used : ℕ → WalkVerdict → WalkVerdict
all_used n (Closed p) = pick (eqb p n) (Closed p) (Refused 15 p)
all_used n (Err refusal) = Err refusal

-- What a walk comes to as the test that it makes, in a file's list of tests: 9 to 15. Closed, it applies nowhere.
abbrev pub walked : WalkVerdict → Test
walked (Closed p) = test 15 Nowhere
walked (Err refusal) = test refusal.number (At refusal.place)

module _ (speaks : ℕ → ℕ → Bool) (limit : ℕ) (es : List Entry) where
  -- "Tests 9 to 14 run in this order at each step, steps in file order": from place p, closed with the place after the
  -- last word used. "9. The steps end while a premise is open or a whole proof is still due (place N)."
  -- "Each step is followed by all of its first premise, then its second."
  unfoldable pub walk : List ℕ → ℕ → List Obligation → WalkVerdict
  walk [] p [] = Closed p
  walk [] p (o ∷ os) = Refused 9 p
  walk (w ∷ ws) p [] = Closed p
  walk (w ∷ ws) p (o ∷ os) = after (step speaks es limit w o) (λ number. Refused number p) (λ premises. walk ws (suc p) (map (under o) premises ++ os))

  -- the words and nothing after them
  unfoldable pub run : List ℕ → List Obligation → WalkVerdict
  run ws os = all_used (length ws) (walk ws 0 os)
