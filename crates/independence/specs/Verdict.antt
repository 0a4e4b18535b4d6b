-- The answer of the test whether a principal's papers can touch a record's goal (02, job 5): yes or no, or a refusal,
-- which "gives its number and a place" (01).
use Rattle.std.specs.Prelude.{Bool, true, false, Result, Ok}
use Rattle.basics.specs.declared.refusal.Refusal.{Refusal}
pub use Rattle.basics.specs.Tested.{Refused}

abbrev pub IndependenceVerdict : Type 0
IndependenceVerdict = Result Bool Refusal

pattern abbrev pub Independent : IndependenceVerdict
Independent = Ok true

pattern abbrev pub NotIndependent : IndependenceVerdict
NotIndependent = Ok false
