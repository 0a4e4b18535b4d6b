-- What one step of the machine answers, in terms of 01's table (Applies.antt) and of the reasons (Reasons.antt). Proved
-- in proofs/Steps.antt. Assumes nothing.
use Rattle.std.specs.Prelude.{ℕ, Bool, ◌≡◌, ◌↔◌, List}
use Rattle.std.proofs.Math.Option.{Option, none, some}
use Rattle.table.specs.declared.entry.Entry.{Entry}
use Rattle.steps.specs.declared.opened.Premise.{Premise}
use Rattle.steps.specs.declared.opened.Opened.{Opened}
use Rattle.steps.specs.declared.opened.Opened.TheVariants.{Refused}
use Rattle.steps.specs.Obligation.{Obligation}
use Rattle.steps.specs.Applies.{Takes}
use Rattle.steps.specs.Reasons.{ReasonAt, FirstAt}
use Rattle.steps.specs.Step.{step}
use Rattle.steps.specs.Run.{after}

-- the premises that a step opens; a refusal has none
abbrev pub premises : Opened → Option (List Premise)
premises x = after x (λ number. none) (λ ps. some ps)

module _ (speaks : ℕ → ℕ → Bool) (limit : ℕ) (es : List Entry) where
  -- A step is refused with a number exactly when that is the first reason that applies,
  abbrev pub StepRefused : Type 0
  StepRefused =
      (w : ℕ) (o : Obligation) (number : ℕ)
      → step speaks es limit w o ≡ Refused number ↔ FirstAt speaks limit es w o number

  -- it opens premises exactly when they are those of 01's row,
  abbrev pub StepOpens : Type 0
  StepOpens =
      (w : ℕ) (o : Obligation) (ps : List Premise)
      → premises (step speaks es limit w o) ≡ some ps ↔ Takes speaks es limit w o ps

  -- and there are such premises exactly when there is no reason to refuse the step.
  abbrev pub StepTaken : Type 0
  StepTaken =
      (w : ℕ) (o : Obligation)
      → ((ps : List Premise) × Takes speaks es limit w o ps) ↔ ((number : ℕ) → ¬ ReasonAt speaks limit es w o number)
