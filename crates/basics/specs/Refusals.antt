-- "Every other file .. is refused by the first reason in the fixed order that applies, with its place" (demand 1): what
-- "first" means, for any list of tests. Proved in proofs/Refusals.antt. Assumes nothing.
use Rattle.std.specs.Prelude.{ℕ, Bool, ◌≡◌, ◌↔◌, ◌⊎◌, List, [], ◌∷◌, Result, Err}
use Rattle.basics.specs.declared.refusal.Refusal.{Refusal}
use Rattle.basics.specs.Place.{Place, At, Nowhere}
use Rattle.basics.specs.Tested.{Tested, Passed, Refused}
use Rattle.basics.specs.Choice.{pick}

-- A test of 01's list: its number, and the place where it applies, if anywhere.
pub record Test : Type 0 where
  pub number : ℕ
  pub place : Place

abbrev pub test : ℕ → Place → Test
test number place = record { number = number; place = place }

-- a test whose place is 0 where it applies
abbrev pub at0 : Bool → Place
at0 applies = pick applies (At 0) Nowhere

-- the refusal at a place that was found, else what follows
abbrev pub refused_at : ℕ → Place → Tested → Tested
refused_at number (At p) next = Refused number p
refused_at number Nowhere next = next

-- "Refused, in checking order": a test that applies refuses; else those after it decide
unfoldable pub first_refusal : List Test → Tested
first_refusal [] = Passed
first_refusal (t ∷ ts) = refused_at t.number t.place (first_refusal ts)

-- What a file's tests come to as an answer: a refusal stands, and else the verdict does.
abbrev pub unless_refused : {A : Type 0} → Tested → Result A Refusal → Result A Refusal
unless_refused Passed verdict = verdict
unless_refused (Err refusal) verdict = Err refusal

-- The first test that applies has this number and this place; those before it apply nowhere.
abbrev pub FirstThat : List Test → ℕ → ℕ → Type 0
FirstThat [] number p = ⊥
FirstThat (t ∷ ts) number p = ((t.number ≡ number) × (t.place ≡ At p)) ⊎ ((t.place ≡ Nowhere) × FirstThat ts number p)

abbrev pub NoneApplies : List Test → Type 0
NoneApplies [] = Unit
NoneApplies (t ∷ ts) = (t.place ≡ Nowhere) × NoneApplies ts

abbrev pub RefusedByFirst : Type 0
RefusedByFirst = (ts : List Test) (number p : ℕ) → first_refusal ts ≡ Refused number p ↔ FirstThat ts number p

abbrev pub PassedByAll : Type 0
PassedByAll = (ts : List Test) → first_refusal ts ≡ Passed ↔ NoneApplies ts
