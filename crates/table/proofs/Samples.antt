-- The samples hold, by computation. Assumes nothing.
use mathlib.Core.Path.{refl}
use native.Mathlib.Decide.{ℕ_discrete}
use Rattle.basics.specs.First.{first}
use Rattle.basics.specs.Refusals.{first_refusal}
use Rattle.table.specs.Entry.{entry}
use Rattle.table.specs.Tests.{entries, wrong_entry, repeated_entry, table_tests}
use Rattle.table.specs.Spelled.{spelled_after, spelled}
use Rattle.table.specs.Number.{position, number}
use Rattle.table.specs.Samples.{Samples, Sizes, SpelledOut, EachKind, EachSpelled, Numbers}

pub samples : Samples
unfolding table_tests first_refusal wrong_entry repeated_entry first entries entry
samples = refl

pub sizes : Sizes
sizes = refl

pub spelled_out : SpelledOut
unfolding entries entry spelled spelled_after
spelled_out = refl

pub each_kind : EachKind
unfolding entries entry
each_kind = refl

pub each_spelled : EachSpelled
unfolding entries entry spelled spelled_after
each_spelled = refl

pub numbers : Numbers
unfolding number position spelled spelled_after entries entry ℕ_discrete
numbers = refl
