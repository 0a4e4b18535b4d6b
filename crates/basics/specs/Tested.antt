-- "A refusal gives its number and a place" (01): `Err` of these two, whatever a call answers else.
use Rattle.std.specs.Prelude.{ℕ, Result, Ok, Err}
use Rattle.basics.specs.declared.refusal.Refusal.{Refusal}

abbrev pub Refused : {A : Type 0} → ℕ → ℕ → Result A Refusal
Refused number place = Err (record { number = number; place = place })

-- What tests made in their order come to: all passed, or the first that applies refuses.
abbrev pub Tested : Type 0
Tested = Result Unit Refusal

pattern abbrev pub Passed : Tested
Passed = Ok tt
