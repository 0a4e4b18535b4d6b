-- The samples hold, by computation. Assumes nothing.
use mathlib.Core.Path.{refl}
use Rattle.table.specs.Entry.{entry}
use Rattle.table.specs.Tests.{entries}
use Rattle.goals.specs.Goals.{goals_from}
use Rattle.goals.specs.Samples.{Holds, A, and_right, implies_left, refused, MostWait}

pub a_holds : Holds A
unfolding goals_from entries entry
a_holds = refl

pub and_right_holds : Holds and_right
unfolding goals_from entries entry
and_right_holds = refl

pub implies_left_holds : Holds implies_left
unfolding goals_from entries entry
implies_left_holds = refl

pub refused_holds : Holds refused
unfolding goals_from entries entry
refused_holds = refl

pub most_wait : MostWait
unfolding goals_from entries entry
most_wait = refl
