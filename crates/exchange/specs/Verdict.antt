-- The answer for an exchange file: "equal, or a refusal" (01), which gives its number and a place. Equal says that the
-- file carries all proofs, and so that its lists are equal in force; refused says only that this file doesn't.
use Rattle.std.specs.Prelude.{Result, Ok}
use Rattle.basics.specs.declared.refusal.Refusal.{Refusal}
pub use Rattle.basics.specs.Tested.{Refused}

abbrev pub ExchangeVerdict : Type 0
ExchangeVerdict = Result Unit Refusal

pattern abbrev pub Equal : ExchangeVerdict
Equal = Ok tt
