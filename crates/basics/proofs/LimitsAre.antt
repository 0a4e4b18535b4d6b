-- The limits are 01's numbers, by computation. Assumes nothing.
use mathlib.Core.Path.{refl}
use Rattle.basics.specs.Limits.{LimitsAre}

pub limits_are : LimitsAre
limits_are = record {
  formulas = refl;
  statements = refl;
  steps = refl;
  depth = refl;
  atoms = refl;
  principals = refl;
  record_bytes = refl;
  exchange_bytes = refl;
}
