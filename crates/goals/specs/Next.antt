-- Whether a step was refused, as the loop over the steps asks it: for a private function. Assumes nothing.
use Rattle.std.specs.Prelude.{Bool, true, false}
use Rattle.steps.specs.declared.opened.Opened.{Opened}
use Rattle.steps.specs.declared.opened.Opened.TheVariants.{Refused, Closed, One, Two}

abbrev pub is_refused : Opened → Bool
is_refused (Refused number) = true
is_refused Closed = false
is_refused (One a) = false
is_refused (Two a b) = false
