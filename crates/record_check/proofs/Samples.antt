-- The samples hold, by computation (specs/Samples.antt). Assumes nothing.
use mathlib.Core.Path.{refl}
use Rattle.basics.specs.First.{first}
use Rattle.basics.specs.Membership.{holds}
use Rattle.basics.specs.Rising.{into}
use Rattle.basics.specs.Refusals.{first_refusal}
use Rattle.table.specs.Entry.{entry}
use Rattle.table.specs.Tests.{entries, wrong_entry, repeated_entry}
use Rattle.steps.specs.Step.{opens, step}
use Rattle.steps.specs.Run.{walk, run}
use Rattle.steps.specs.Naming.{is_naming, named_numbers}
use Rattle.signers.specs.Signers.{principals, used}
use Rattle.record_check.specs.Samples.{Parts, Steps, Room}

pub parts : Parts
unfolding first_refusal wrong_entry repeated_entry first entries entry
parts = refl

pub steps : Steps
unfolding first_refusal first run walk step opens holds entries entry
steps = refl

pub room : Room
unfolding first_refusal holds into principals used named_numbers is_naming entries entry
room = refl
