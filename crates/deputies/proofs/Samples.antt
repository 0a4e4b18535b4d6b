-- The samples hold, by computation. Assumes nothing.
use mathlib.Core.Path.{refl}
use Rattle.deputies.specs.SpeaksFor.{speaks}
use Rattle.deputies.specs.Samples.{Samples}

pub samples : Samples
unfolding speaks
samples = (refl, refl, refl, refl, refl)
