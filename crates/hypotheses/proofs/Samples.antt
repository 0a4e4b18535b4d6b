-- The samples of the slots, by computation. Assumes nothing.
use mathlib.Core.Path.{refl}
use Rattle.hypotheses.specs.Slots.{shown_below, held_all, count_all, released_to}
use Rattle.hypotheses.specs.Samples.{Samples}

pub samples : Samples
unfolding shown_below held_all count_all released_to
samples = (refl, refl, refl, refl, refl, refl, refl)
