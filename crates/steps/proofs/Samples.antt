-- The samples hold, by computation. Assumes nothing.
use mathlib.Core.Path.{refl}
use Rattle.basics.specs.Membership.{holds}
use Rattle.table.specs.Entry.{entry}
use Rattle.table.specs.Tests.{entries}
use Rattle.table.specs.Spelled.{spelled, spelled_after}
use Rattle.steps.specs.Step.{opens, step}
use Rattle.steps.specs.Run.{walk, run}
use Rattle.steps.specs.Trace.{trace}
use Rattle.steps.specs.Samples.{Samples, Order, Depths, Exchange, Traces}

pub samples : Samples
unfolding run walk step opens holds entries entry
samples = refl

pub order : Order
unfolding run walk step opens holds entries entry
order = refl

pub depths : Depths
unfolding run walk step opens holds entries entry
depths = refl

pub exchange : Exchange
unfolding run walk step opens holds entries entry
exchange = refl

pub traces : Traces
unfolding trace step opens holds entries entry spelled spelled_after
traces = refl
