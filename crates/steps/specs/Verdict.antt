-- What a walk through step words comes to: closed, with the place of the next word, or refused.
use Rattle.std.specs.Prelude.{ℕ, Result, Ok}
use Rattle.basics.specs.declared.refusal.Refusal.{Refusal}
pub use Rattle.basics.specs.Tested.{Refused}

abbrev pub WalkVerdict : Type 0
WalkVerdict = Result ℕ Refusal

pattern abbrev pub Closed : ℕ → WalkVerdict
Closed next = Ok next
