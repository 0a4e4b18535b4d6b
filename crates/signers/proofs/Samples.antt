-- The samples hold, by computation. Assumes nothing.
use mathlib.Core.Path.{refl}
use Rattle.basics.specs.Membership.{holds}
use Rattle.basics.specs.Rising.{into}
use Rattle.table.specs.Entry.{entry}
use Rattle.table.specs.Tests.{entries}
use Rattle.signers.specs.Signers.{principals, used}
use Rattle.signers.specs.Samples.{Samples, UsedSamples}

pub samples : Samples
unfolding principals used holds into entries entry
samples = refl

pub used_samples : UsedSamples
unfolding principals used holds into entries entry
used_samples = refl
