-- The samples hold, by computation. Assumes nothing.
use mathlib.Core.Path.{refl}
use Rattle.basics.specs.Refusals.{first_refusal}
use Rattle.file.specs.Words.{file_words}
use Rattle.file.specs.Samples.{Samples, PartOfSmall}

pub samples : Samples
unfolding first_refusal file_words
samples = refl

pub part_of_small : PartOfSmall
unfolding file_words
part_of_small = refl
